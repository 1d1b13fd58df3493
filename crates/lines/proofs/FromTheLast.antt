-- A loop that writes a piece of text for each item of a list before a place, from the last item to the first: before
-- the turn of item i - 1 what stands from the place reached on is the text of the items from i on, and then what stood
-- from the end on. No piece is longer than `size`, so the items that are left have as much room as they may take.
use Rattle.std.proofs.Common.{◌≡◌, sym, ap, ◌∙◌, ℕ, ◌+◌, ◌-◌, ◌*◌, ◌≤◌, ◌<◌, List, [], ◌++◌}
use Rattle.std.proofs.Common.{drop, append_assoc, arith}

pub record FromTheLast
    (text : ℕ → List ℕ) (size count end : ℕ) (old : List ℕ) (i at : ℕ) (out : List ℕ) : Type 0 where
  pub turns : i ≤ count
  pub place : at ≤ end
  pub room : end + size * i ≤ at + size * count
  pub written : drop at out ≡ text i ++ drop end old

module _ {text : ℕ → List ℕ} {size count end : ℕ} {old : List ℕ} where
  pub none : text count ≡ [] → FromTheLast text size count end old count end old
  none nothing =
      record {
        turns = omega arith;
        place = omega arith;
        room = omega arith;
        written = ap (λ rest. rest ++ drop end old) (sym nothing);
      }

  module _ {i at : ℕ} {out : List ℕ} (so_far : FromTheLast text size count end old i at out) where
    pub more : {next : ℕ} {now : List ℕ} (piece : List ℕ) → 0 < i → next ≤ at → at ≤ next + size →
        text (i - 1) ≡ piece ++ text i → drop next now ≡ piece ++ drop at out →
        FromTheLast text size count end old (i - 1) next now
    more piece some before near is put =
        let turn : i - 1 + 1 ≡ i = omega arith in
        let all = so_far.room in
        record {
          turns = omega (arith, so_far.turns);
          place = omega (arith, so_far.place);
          room = omega (arith, ap (λ n. size * n) turn);
          written =
              put
              ∙ ap (λ rest. piece ++ rest) so_far.written
              ∙ sym (append_assoc piece (text i) (drop end old))
              ∙ ap (λ whole. whole ++ drop end old) (sym is);
        }

    pub all_written : i ≤ 0 → drop at out ≡ text 0 ++ drop end old
    all_written ended = let first : i ≡ 0 = omega arith in rw first at so_far.written
