-- A loop that writes f 0, f 1, .. into the places of a list fills it: after i turns the first i places hold f 0 to f
-- (i - 1) and the others are as they were. This is the invariant of every such loop, over an array or a lent list.
use Prim.Native.Nat.{ℕ, zero, suc, ◌+◌, ◌≤◌, ◌<◌}
use mathlib.Core.Path.{◌≡◌, refl, sym, ◌∙◌, ap}
use mathlib.Core.List.{List, [], ◌∷◌, ◌++◌, append_assoc, append-nil}
use native.Mathlib.Numerals.{add-one}
use native.Mathlib.Nat.{le_antisymm}
use native.Mathlib.Decide.{le_ind}
use native.Mathlib.Omega.{arith}
use lib.ListN.{length, set, take, drop, get_or, length-append, length-set, get_or-append, drop_of_length-le}
use lib.Seq.{length-take-le, drop-cons, set_at, get_or_at}
use Rattle.book.specs.Held.{up_to, filled}

pub record Filled {A : Type 0} (f : ℕ → A) (list : List A) (n i : ℕ) (now : List A) : Type 0 where
  pub capacity : n ≤ length list
  pub turns : i ≤ n
  pub size : length now ≡ length list
  pub content : now ≡ filled i f list

module _ {A : Type 0} where
  pub length_up_to : (n : ℕ) (f : ℕ → A) → length (up_to n f) ≡ n
  unfolding up_to
  length_up_to zero f = refl
  length_up_to (suc n) f = length-append (up_to n f) (f n ∷ []) ∙ rw (length_up_to n f) (add-one n)

  pub up_to_at : (n : ℕ) (f : ℕ → A) (k : ℕ) (other : A) → k < n → get_or (up_to n f) k other ≡ f k
  unfolding up_to
  up_to_at n f k other l =
      le_ind
      (λ m. get_or (up_to m f) k other ≡ f k)
      (get_or_at (up_to k f) (f k) [] other k (length_up_to k f))
      (λ m h ih. get_or-append (up_to m f) _ other k (omega (arith, length_up_to m f)) ∙ ih)
      n
      l

  -- What a filled place holds.
  pub filled_at : (n : ℕ) (f : ℕ → A) (list : List A) (k : ℕ) (other : A) → k < n →
      get_or (filled n f list) k other ≡ f k
  filled_at n f list k other l =
      get_or-append (up_to n f) _ other k (omega (arith, length_up_to n f)) ∙ up_to_at n f k other l

  pub filled_none : {f : ℕ → A} {list : List A} {n : ℕ} → n ≤ length list → Filled f list n 0 list
  unfolding up_to
  filled_none capacity = record { capacity = capacity; turns = omega arith; size = refl; content = refl }

  pub filled_more : {f : ℕ → A} {list : List A} {n i : ℕ} {now : List A} {v : A} → Filled f list n i now → i < n →
      v ≡ f i → Filled f list n (i + 1) (set now i v)
  unfolding up_to
  filled_more {f} {list} {n} {i} {now} {v} h l e =
      let r : i < length list = omega arith in
      record {
        capacity = h.capacity;
        turns = omega arith;
        size = length-set now i v ∙ h.size;
        content =
            rw (
              h.content,
              drop-cons list i v r,
              set_at (up_to i f) (get_or list i v) (drop (suc i) list) v i (length_up_to i f),
              e,
              add-one,
            )
            (sym (append_assoc (up_to i f) (f i ∷ []) (drop (suc i) list)));
      }

  -- The next place is as it was.
  pub filled_ahead : {f : ℕ → A} {list : List A} {n i : ℕ} {now : List A} (other : A) → Filled f list n i now → i < n →
      get_or now i other ≡ get_or list i other
  filled_ahead {f} {list} {n} {i} other h l =
      let r : i < length list = omega (arith, h.capacity) in
      rw (h.content, drop-cons list i other r)
      (get_or_at (up_to i f) (get_or list i other) (drop (suc i) list) other i (length_up_to i f))

  pub filled_all : {f : ℕ → A} {list : List A} {n i : ℕ} {now : List A} → Filled f list n i now → n ≤ i →
      now ≡ filled n f list
  filled_all {f} {list} h l = h.content ∙ ap (λ k. filled k f list) (le_antisymm h.turns l)

  -- A part that is filled, with the rest of the list.
  pub filled_of_part : (n : ℕ) (f : ℕ → A) (list : List A) {now : List A} → n ≤ length list →
      now ≡ filled n f (take n list) → now ++ drop n list ≡ filled n f list
  filled_of_part n f list capacity part =
      let none : drop n (take n list) ≡ [] =
      drop_of_length-le (take n list) (omega (arith, length-take-le n list capacity)) in
      rw (part, none, append-nil) refl
