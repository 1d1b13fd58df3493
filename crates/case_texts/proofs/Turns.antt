-- The numbers that are read one after the other, and what a turn of a loop adds: a place that is written.
use Rattle.std.proofs.Common.{◌≡◌, refl, sym, ap, subst, ◌∙◌, ℕ, zero, suc, map, arith, ◌+◌}
use Rattle.std.proofs.Common.{◌*◌, ◌<◌, ◌≤◌, List, [], ◌∷◌, ◌++◌, length, drop, append-nil}
use Rattle.std.proofs.lemmas.List.{append_assoc}
use Rattle.std.specs.List.{range_with_len}
use Rattle.std.proofs.lemmas.List.FromFn.{map-range_with_len_more}
use lib.ListN.{get_or, drop_of_length-le}
use lib.Seq.{drop-cons}
use native.Mathlib.Numerals.{add-one}
use Rattle.numbers.specs.Bytes.{u32_at}
use Rattle.book.specs.Held.{up_to}
use Rattle.text.specs.Words.{ascii}
use Rattle.case_texts.specs.Texts.{numbers_at, spaced}

pub numbers_mapped :
    (body : List ℕ) (offset count : ℕ) →
    map (λ i. u32_at body (offset + 4 * i)) (range_with_len 0 count) ≡ numbers_at body offset count
unfolding up_to
numbers_mapped body offset zero = refl
numbers_mapped body offset (suc n) =
    let at = λ (i : ℕ). u32_at body (offset + 4 * i) in
    let more : map at (range_with_len 0 (suc n)) ≡ map at (range_with_len 0 n) ++ (at n ∷ []) =
    subst (λ k. map at (range_with_len 0 k) ≡ map at (range_with_len 0 n) ++ (at n ∷ [])) (add-one n)
    (map-range_with_len_more at 0 n n (omega arith)) in
    more ∙ ap (λ l. l ++ (at n ∷ [])) (numbers_mapped body offset n)

-- A list whose items are written one after the other, each after a space.
module _ {A : Type 0} (text : A → List ℕ) (list : List A) (i : ℕ) where
  spaced_next : (other : A) → i < length list →
      spaced text (drop i list) ≡ ascii " " ++ text (get_or list i other) ++ spaced text (drop (i + 1) list)
  unfolding spaced
  spaced_next other l = rw (add-one i, drop-cons list i other l) refl

  spaced_done : length list ≤ i → spaced text (drop i list) ≡ []
  unfolding spaced
  spaced_done past = rw (drop_of_length-le list past) refl

  -- What is written so far and the items still ahead stay the whole.
  pub item_written :
      {whole : List ℕ} (old : List ℕ) {new : List ℕ} (other : A) → i < length list →
      new ≡ old ++ (ascii " " ++ text (get_or list i other)) → old ++ spaced text (drop i list) ≡ whole →
      new ++ spaced text (drop (i + 1) list) ≡ whole
  item_written old other l e ahead =
      let word = text (get_or list i other) in
      rw e (rw (
        append_assoc old (ascii " " ++ word) (spaced text (drop (i + 1) list)),
        sym (spaced_next other l),
      ) ahead)

  pub all_written :
      {whole : List ℕ} (written : List ℕ) → length list ≤ i → written ++ spaced text (drop i list) ≡ whole →
      written ≡ whole
  all_written written past ahead = sym (append-nil written) ∙ rw (sym (spaced_done past)) ahead
