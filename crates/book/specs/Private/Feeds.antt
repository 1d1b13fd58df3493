-- What an iterator along the feeds has still to give.
use Rattle.std.specs.Prelude.{ℕ, List}
use Rattle.book.specs.Fields.{next, along}
use Rattle.book.specs.declared.feeds.Feeds.{Feeds}

abbrev pub feeds_left : Feeds → List ℕ
feeds_left feeds = along (next feeds.book.now) feeds.left feeds.next
