-- From an accepted book to a sound chain.
pub mod Walk
pub mod OnceEach
pub mod BookFeeds
pub mod AcceptedSound
