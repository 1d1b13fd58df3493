-- A run on its way: what is done stands before the place reached, and the run over the rates that are left, on what
-- stands from there on, makes all of it.
use Prim.Native.Nat.{ℕ, ◌+◌, ◌*◌, ◌≤◌, min}
use native.Mathlib.Omega.{arith}
use mathlib.Core.Path.{◌≡◌, refl, ap, sym, ◌∙◌}
use mathlib.Core.List.{List, [], ◌++◌}
use Rattle.std.specs.Prelude.{ℤ}
use Rattle.std.proofs.lemmas.List.{length-append, length-drop, length-take, append_assoc, append-nil}
use Rattle.std.proofs.lemmas.List.{take-append-drop, drop-drop}
use Rattle.std.proofs.lemmas.List.{length-take-le}
use lib.ListN.{length, take, drop, drop_of_length-le}
use lib.Seq.{take_all, take_at, drop_at}
use Rattle.portfolios.specs.Rows.{rows_at, answers_at}
use Rattle.portfolios.specs.Private.Next.{NextRun}
use Rattle.portfolios.proofs.Apart.{rows_length, answers_length, rows_append, answers_append}

pub record Running
    (width : ℕ) (book rates rows : List ℕ) (i at : ℕ) (answers_now : List ℤ) (rows_now : List ℕ) : Type 0 where
  pub turns : i ≤ length rates
  pub place : at ≤ length rows_now
  pub count : length answers_now ≡ length rates
  pub answered :
      answers_at width book rates rows
      ≡ take i answers_now ++ answers_at width book (drop i rates) (drop at rows_now)
  pub filled : rows_at width book rates rows ≡ take at rows_now ++ rows_at width book (drop i rates) (drop at rows_now)

pub begun : (width : ℕ) (book rates rows : List ℕ) (answers : List ℤ) → length answers ≡ length rates →
    Running width book rates rows 0 0 answers rows
begun width book rates rows answers lent =
    record { turns = omega arith; place = omega arith; count = lent; answered = refl; filled = refl }

-- What is done and the part that is new stand before the place after both.
module _ {A : Type 0} (done part rest : List A) (end : ℕ) (size : length done + length part ≡ end) where
  whole : length (done ++ part) ≡ end
  whole = length-append done part ∙ size

  before : take end (done ++ (part ++ rest)) ≡ done ++ part
  before = ap (take end) (sym (append_assoc done part rest)) ∙ take_at (done ++ part) rest end whole

  behind : drop end (done ++ (part ++ rest)) ≡ rest
  behind = ap (drop end) (sym (append_assoc done part rest)) ∙ drop_at (done ++ part) rest end whole

module _ {width : ℕ} {book rates rows : List ℕ} {i at : ℕ} {answers_now : List ℤ} {rows_now : List ℕ}
    (running : Running width book rates rows i at answers_now rows_now) where
  pub ended : length rates ≤ i →
      (answers_now ≡ answers_at width book rates rows) × (rows_now ≡ rows_at width book rates rows)
  unfolding rows_at answers_at
  ended done =
      let none : drop i rates ≡ [] = drop_of_length-le rates done in (
        sym
            (running.answered
            ∙ ap (λ left. take i answers_now ++ answers_at width book left (drop at rows_now)) none
            ∙ append-nil (take i answers_now)
            ∙ take_all i answers_now (omega (arith, running.count))),
        sym
            (running.filled
            ∙ ap (λ left. take at rows_now ++ rows_at width book left (drop at rows_now)) none
            ∙ take-append-drop at rows_now),
      )

  pub more : {count end : ℕ} {answers : List ℤ} {left : List ℕ} →
      NextRun width book (drop i rates) (drop i answers_now) (drop at rows_now) count answers left →
      end ≡ min (at + count * width) (length rows_now) →
      Running width book rates rows (i + count) end (take i answers_now ++ answers) (take at rows_now ++ left)
  more {count} {end} {answers} {left} next ends =
      let ahead = drop i rates in
      let room = drop at rows_now in
      let given = answers_at width book (take count ahead) (take (count * width) room) in
      let row = rows_at width book (take count ahead) (take (count * width) room) in
      let behind_row = drop (count * width) room in
      let counted : length (take count ahead) ≡ count = length-take-le count ahead next.within in
      let both : take count ahead ++ drop count ahead ≡ ahead = take-append-drop count ahead in
      let old_size : length (take i answers_now) ≡ i =
      length-take-le i answers_now (omega (arith, running.turns, running.count)) in
      let given_size : length given ≡ count = answers_length width book (take count ahead) _ ∙ counted in
      let row_size : length row ≡ length (take (count * width) room) = rows_length width book (take count ahead) _ in
      let rows_size : length (take at rows_now) + length row ≡ end =
      omega (
        arith,
        ends,
        running.place,
        row_size,
        length-take-le at rows_now running.place,
        length-take (count * width) room,
        length-drop at rows_now,
      ) in
      let answers_done : take (i + count) (take i answers_now ++ answers) ≡ take i answers_now ++ given =
      rw next.answered
      (before (take i answers_now) given (drop count (drop i answers_now)) (i + count)
      (omega (arith, old_size, given_size)))
      in
      let rows_done : take end (take at rows_now ++ left) ≡ take at rows_now ++ row =
      rw next.filled (before (take at rows_now) row (drop (count * width) room) end rows_size) in
      let rest : drop end (take at rows_now ++ left) ≡ drop (count * width) room =
      rw next.filled (behind (take at rows_now) row (drop (count * width) room) end rows_size) in
      let later : drop (i + count) rates ≡ drop count ahead = sym (drop-drop count i rates) in
      let given_apart :
      answers_at width book ahead room ≡ given ++ answers_at width book (drop count ahead) (drop (count * width) room)
      = ap (λ left. answers_at width book left room) (sym both)
      ∙ (rw counted at (answers_append width book (take count ahead) (drop count ahead) room)) in
      let rows_apart :
      rows_at width book ahead room ≡ row ++ rows_at width book (drop count ahead) (drop (count * width) room)
      = ap (λ left. rows_at width book left room) (sym both)
      ∙ (rw counted at (rows_append width book (take count ahead) (drop count ahead) room)) in
      record {
        turns = omega (arith, running.turns, next.within, length-drop i rates);
        place =
            omega (
              arith,
              rows_size,
              length-append (take at rows_now) left,
              ap length next.filled,
              length-append row behind_row,
            );
        count =
            omega (
              arith,
              running.turns,
              running.count,
              next.within,
              length-drop i rates,
              old_size,
              given_size,
              length-append (take i answers_now) answers,
              ap length next.answered,
              length-append given (drop count (drop i answers_now)),
              length-drop count (drop i answers_now),
              length-drop i answers_now,
            );
        answered =
            rw (answers_done, rest, later, append_assoc)
            (running.answered ∙ ap (λ answers. take i answers_now ++ answers) given_apart);
        filled =
            rw (rows_done, rest, later, append_assoc)
            (running.filled ∙ ap (λ rows. take at rows_now ++ rows) rows_apart);
      }
