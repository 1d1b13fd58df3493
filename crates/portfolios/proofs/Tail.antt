-- The last places of a list, lent as a slice of their own, are what stands behind the place reached; once they have
-- been written to, the list is what stands before it and what they hold now.
use Prim.Native.Nat.{ℕ, ◌+◌, ◌-◌, ◌*◌, ◌≤◌, min}
use native.Mathlib.Omega.{arith}
use mathlib.Core.Path.{◌≡◌, ap, ◌∙◌}
use mathlib.Core.List.{List, [], ◌++◌}
use Rattle.std.specs.Prelude.{ℤ}
use Rattle.std.proofs.lemmas.List.{take_all, length-drop, length-append, length-take-le, append-nil}
use borrow.Rule.Slice.PartMut.{put_mid}
use lib.ListN.{length, take, drop, drop_of_length-le}
use Rattle.portfolios.specs.Private.Next.{NextRun}
use Rattle.portfolios.proofs.Running.{Running, more}

module _ {A : Type 0} (at : ℕ) (list : List A) where
  tail_lent : take (length list - at) (drop at list) ≡ drop at list
  tail_lent = take_all (length list - at) (drop at list) (omega (arith, length-drop at list))

  module _ (tail : List A) (within : at ≤ length list) (size : length tail ≡ length list - at) where
    none_behind : drop (length list - at) (drop at list) ≡ []
    none_behind = drop_of_length-le (drop at list) (omega (arith, length-drop at list))

    tail_written : put_mid at (length list - at) list tail ≡ take at list ++ tail
    tail_written =
        ap (λ behind. take at list ++ (tail ++ behind)) none_behind ∙ ap (λ t. take at list ++ t) (append-nil tail)

    written_length : length (put_mid at (length list - at) list tail) ≡ length list
    written_length =
        ap length tail_written ∙ length-append (take at list) tail ∙ omega (arith, size, length-take-le at list within)

pub more_in_place :
    {width : ℕ} {book rates rows : List ℕ} {i at count end : ℕ}
    {answers_now answers : List ℤ} {rows_now left : List ℕ} →
    Running width book rates rows i at answers_now rows_now →
    NextRun width book (take (length rates - i) (drop i rates))
    (take (length answers_now - i) (drop i answers_now))
    (take (length rows_now - at) (drop at rows_now)) count answers left →
    length answers ≡ length answers_now - i → length left ≡ length rows_now - at →
    end ≡ min (at + count * width) (length (put_mid at (length rows_now - at) rows_now left)) →
    Running width book rates rows (i + count) end (put_mid i (length answers_now - i) answers_now answers)
    (put_mid at (length rows_now - at) rows_now left)
more_in_place {width} {book} {rates} {rows} {i} {at} {count} {end} {answers_now} {answers} {rows_now} {left}
    running next answers_size left_size ends =
    let within : i ≤ length answers_now = omega (arith, running.turns, running.count) in
    rw (tail_written i answers_now answers within answers_size, tail_written at rows_now left running.place left_size)
    (more running (rw (tail_lent i rates, tail_lent i answers_now, tail_lent at rows_now) at next)
    (rw (written_length at rows_now left running.place left_size) at ends))
