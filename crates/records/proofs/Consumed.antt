-- What fills a list is what the reader gave: each read goes on where the one before it ended.
use Rattle.std.proofs.Common.{◌≡◌, refl, sym, ap, ◌∙◌, subst, ℕ, ◌+◌, ◌≤◌, List, ◌++◌}
use Rattle.std.proofs.Common.{length, take, drop, le_refl, drop_at, length-take-le}
use Rattle.std.proofs.lemmas.Slice.{take-put_mid_below}
use Rattle.std.proofs.KnownBytes.{Consumes-trans}
use Rattle.std.specs.Io.KnownBytes.{Consumes}
use Rattle.std.specs.Prelude.{Option}
use borrow.Rule.Slice.PartMut.{put_mid, post_of}
use lib.Seq.{take-add, take-append-le}

pub filled_on :
    (at n k : ℕ) (xs ys : List ℕ) → at ≤ length xs → n ≤ length ys →
    take at xs ++ take n ys ≡ take (at + n) (put_mid at k xs ys)
filled_on at n k xs ys within fits =
    let new = put_mid at k xs ys in
    let front : take at new ≡ take at xs = take-put_mid_below _ _ _ _ _ (le_refl _) within in
    let part : take n (drop at new) ≡ take n ys =
    ap (take n) (drop_at (take at xs) (ys ++ post_of at k xs) at (length-take-le at xs within))
    ∙ take-append-le n ys (post_of at k xs) fits
    in
    sym (take-add at n new ∙ rw (front, part) refl)

pub consumed :
    (a b c : Option (List ℕ)) (at n k : ℕ) (xs ys : List ℕ) → at ≤ length xs → n ≤ length ys →
    Consumes a b (take at xs) → Consumes b c (take n ys) → Consumes a c (take (at + n) (put_mid at k xs ys))
consumed a b c at n k xs ys within fits before read =
    subst (Consumes a c) (filled_on at n k xs ys within fits) (Consumes-trans a b c _ _ before read)
