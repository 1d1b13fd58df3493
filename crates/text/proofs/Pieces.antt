-- A loop that hands a sink a piece of text for each item of a list: after i turns it took the pieces of the first i
-- items, and the next has room, since all of them together have.
use Prim.Native.Nat.{ℕ, suc, ◌+◌, ◌*◌, ◌≤◌, ◌<◌}
use mathlib.Core.Path.{◌≡◌, sym, ap, ◌∙◌}
use mathlib.Core.List.{List, [], ◌∷◌, ◌++◌, append_assoc, append-nil}
use native.Mathlib.Nat.{add-zero, zero-add, mul-suc}
use native.Mathlib.Numerals.{add-one}
use native.Mathlib.Omega.{arith}
use lib.ListN.{length, take, drop, get_or, length-append, take-append-drop}
use lib.Seq.{take-suc, take_all, length-take-le}
use Rattle.text.specs.Words.{each}
use Rattle.text.specs.Sinks.{SinkLaws}

pub each_append :
    (piece : ℕ → ℕ → List ℕ) (k : ℕ) (xs ys : List ℕ) →
    each piece k (xs ++ ys) ≡ each piece k xs ++ each piece (k + length xs) ys
each_append piece k [] ys = ap (λ n. each piece n ys) (sym (add-zero k))
each_append piece k (x ∷ xs) ys =
    let e : suc k + length xs ≡ k + length (x ∷ xs) = omega arith in
    rw (
      each_append piece (suc k) xs ys,
      e,
      append_assoc (piece k x) (each piece (suc k) xs) (each piece (k + length (x ∷ xs)) ys),
    )

-- One item more is one piece more at the end.
pub each_more :
    (piece : ℕ → ℕ → List ℕ) (items : List ℕ) (i : ℕ) → i < length items →
    each piece 0 (take (i + 1) items) ≡ each piece 0 (take i items) ++ piece i (get_or items i 0)
each_more piece items i h =
    let n : 0 + length (take i items) ≡ i = zero-add (length (take i items)) ∙ length-take-le i items (omega arith) in
    rw (
      add-one i,
      take-suc items i 0 h,
      each_append piece 0 (take i items) (get_or items i 0 ∷ []),
      n,
      append-nil (piece i (get_or items i 0)),
    )

-- The pieces of the first items, and one more, are no longer than all of them.
pub each_within :
    (piece : ℕ → ℕ → List ℕ) (items : List ℕ) (i : ℕ) → i < length items →
    length (each piece 0 (take i items)) + length (piece i (get_or items i 0)) ≤ length (each piece 0 items)
each_within piece items i h =
    let whole =
    ap (each piece 0) (sym (take-append-drop (i + 1) items))
    ∙ each_append piece 0 (take (i + 1) items) (drop (i + 1) items)
    in
    let more = each_more piece items i h in
    omega (arith, simp length-append at (ap length whole), simp length-append at (ap length more))

-- Of items that are all of a kind whose pieces are at most so long.
pub each_at_most :
    (piece : ℕ → ℕ → List ℕ) (Of : ℕ → Type 0) (most : ℕ) →
    ((k x : ℕ) → Of x → length (piece k x) ≤ most) → (k : ℕ) (items : List ℕ) →
    ((i : ℕ) → i < length items → Of (get_or items i 0)) → length (each piece k items) ≤ most * length items
each_at_most piece Of most h k [] all = omega arith
each_at_most piece Of most h k (x ∷ xs) all =
    let rest = each_at_most piece Of most h (suc k) xs (λ i l. all (suc i) (omega arith)) in
    let more : most * length (x ∷ xs) ≡ most * length xs + most = mul-suc most (length xs) in
    rw length-append (omega (arith, h k x (all 0 (omega arith))))

-- Of pieces that are all as long.
pub each_as_long :
    (piece : ℕ → ℕ → List ℕ) (size : ℕ) → ((k x : ℕ) → length (piece k x) ≡ size) → (k : ℕ) (items : List ℕ) →
    length (each piece k items) ≡ size * length items
each_as_long piece size h k [] = omega arith
each_as_long piece size h k (x ∷ xs) =
    let rest = each_as_long piece size h (suc k) xs in
    let more : size * length (x ∷ xs) ≡ size * length xs + size = mul-suc size (length xs) in
    rw length-append (omega (arith, h k x))

module _ {Sink : Type 0} (room : Sink → ℕ) (Took : Sink → List ℕ → Sink → Type 0) where
  pub record Handed (piece : ℕ → ℕ → List ℕ) (items : List ℕ) (start : Sink) (i : ℕ) (now : Sink) : Type 0 where
    pub turns : i ≤ length items
    pub fits : length (each piece 0 items) ≤ room start
    pub took : Took start (each piece 0 (take i items)) now

-- Handed one text and then another, it was handed both.
pub and_then :
    {Sink : Type 0} {room : Sink → ℕ} {Took : Sink → List ℕ → Sink → Type 0} → SinkLaws room Took →
    {s t u : Sink} {a b : List ℕ} → Took s a t → Took t b u → Took s (a ++ b) u
and_then laws p q = laws.both _ _ _ _ _ p q

module _ {Sink : Type 0} {room : Sink → ℕ} {Took : Sink → List ℕ → Sink → Type 0} (laws : SinkLaws room Took)
    {piece : ℕ → ℕ → List ℕ} {items : List ℕ} {start : Sink} where
  pub none : length (each piece 0 items) ≤ room start → Handed room Took piece items start 0 start
  none fits = record { turns = omega arith; fits = fits; took = laws.nothing start }

  module _ {i : ℕ} {now : Sink} (handed : Handed room Took piece items start i now) where
    pub roomy : i < length items → length (piece i (get_or items i 0)) ≤ room now
    roomy h = omega (arith, each_within piece items i h, handed.fits, laws.less _ _ _ handed.took)

    pub more :
        {next : Sink} → i < length items → Took now (piece i (get_or items i 0)) next →
        Handed room Took piece items start (i + 1) next
    more h one =
        record {
          turns = omega arith;
          fits = handed.fits;
          took = rw (each_more piece items i h) (and_then laws handed.took one);
        }

    pub all : length items ≤ i → Took start (each piece 0 items) now
    all h = rw (take_all i items h) at handed.took
