-- What holds of every sink.
use Rattle.std.specs.Prelude.{ℕ, ◌-◌, ◌≡◌, List, [], ◌++◌, length}

pub record SinkLaws {Sink : Type 0} (room : Sink → ℕ) (Took : Sink → List ℕ → Sink → Type 0) : Type 0 where
  -- handed nothing it is as it was
  pub nothing : (s : Sink) → Took s [] s
  -- handed one text and then another it was handed both
  pub both : (s t u : Sink) (a b : List ℕ) → Took s a t → Took t b u → Took s (a ++ b) u
  -- and it takes so many bytes less
  pub less : (s t : Sink) (a : List ℕ) → Took s a t → room t ≡ room s - length a
