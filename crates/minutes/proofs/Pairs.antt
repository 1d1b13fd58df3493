-- A list's numbers by twos, from its front: those that an iterator still gives, and what its next turn takes.
use Prim.Native.Nat.{ℕ, ◌+◌, ◌*◌, ◌/◌, ◌<◌}
use native.Mathlib.Nat.{add-zero}
use native.Mathlib.Omega.{arith}
use mathlib.Core.Path.{◌≡◌, sym, ap, ◌∙◌}
use mathlib.Core.List.{List, ◌++◌}
use lib.ListN.{length, get_or, drop, length-append, length-drop, get_or-append}
use lib.Seq.{drop_at}
use denote.Ref.{Bor}
use Rattle.std.specs.Prelude.{Some}
use Rattle.std.specs.Slice.Iter.{chunks_exact_rest, chunks_exact_size, chunks_exact_steps}
use Rattle.std.specs.declared.slice.ChunksExact.{ChunksExact}
use Rattle.std.proofs.lemmas.List.{get_or-drop, drop-drop}

-- The first k pairs are taken.
pub record Ahead (numbers : List ℕ) (k : ℕ) (rest : ChunksExact ℕ) : Type 0 where
  pub pairs : chunks_exact_size rest ≡ 2
  pub left : chunks_exact_rest rest ≡ drop (2 * k) numbers

-- This is the next one.
pub record PairAt (numbers : List ℕ) (k : ℕ) (pair : List ℕ) (rest : ChunksExact ℕ) : Type 0 where
  pub within : k < length numbers / 2
  pub first : get_or pair 0 0 ≡ get_or numbers (2 * k) 0
  pub second : get_or pair 1 0 ≡ get_or numbers (2 * k + 1) 0
  pub ahead : Ahead numbers (k + 1) rest

pub pair_at :
    {numbers : List ℕ} {k : ℕ} {rest : ChunksExact ℕ} (pair : Bor (List ℕ)) (later : ChunksExact ℕ) →
    Ahead numbers k rest → chunks_exact_steps rest (Some pair) later → PairAt numbers k pair.now later
pair_at {numbers} {k} pair later now turn =
    let two : length pair.now ≡ 2 = turn.1.1 ∙ now.pairs in
    let here : drop (2 * k) numbers ≡ pair.now ++ chunks_exact_rest later = sym now.left ∙ turn.1.0 in
    let item : (j : ℕ) → j < 2 → get_or pair.now j 0 ≡ get_or numbers (2 * k + j) 0 =
    λ j l. sym (get_or-append pair.now _ 0 j (omega arith)) ∙ ap (λ xs. get_or xs j 0) (sym here)
    ∙ get_or-drop (2 * k) numbers j 0
    in
    let next : 2 * (k + 1) ≡ 2 * k + 2 = omega arith in
    record {
      within =
          omega (arith, ap length here, length-append pair.now (chunks_exact_rest later), length-drop (2 * k) numbers);
      first = item 0 (omega arith) ∙ ap (λ j. get_or numbers j 0) (add-zero (2 * k));
      second = item 1 (omega arith);
      ahead =
          record {
            pairs = turn.0 ∙ now.pairs;
            left = rw next (sym (ap (drop 2) here ∙ drop_at pair.now _ 2 two) ∙ drop-drop 2 (2 * k) numbers);
          };
    }
