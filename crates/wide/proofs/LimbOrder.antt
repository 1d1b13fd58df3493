-- The order of two numbers is that of their limbs, the highest first: where the numbers above a limb differ they
-- decide, since the limb is worth less than one of them.
use Rattle.std.proofs.Common.{Ordering, Less, Equal, Greater, ◌≡◌, ◌==◌, ℕ, ◌+◌, ◌*◌}
use Rattle.std.proofs.Common.{◌^◌, ◌<◌, List, get_or, refl, ap, subst, ◌∙◌, arith}
use Rattle.std.proofs.lemmas.Cmp.{ranked}
use Rattle.std.specs.Cmp.{nat_cmp_is, unsigned_ties, unsigned_tied}
use Rattle.std.specs.Cmp.Derive.{then_next}
use Rattle.std.specs.Cmp.Lexicographic.{pointwise, slice_cmp, lists_ties}
use Rattle.std.specs.Ordering.{nat_cmp, ordering_then, is_eq}
use Rattle.wide.specs.Limbs.{SixLimbs, number, listed, listed_same}

limb_below : (x y v w : ℕ) → x < 2 ^ 32 → y < 2 ^ 32 → (above here : Ordering) → above ≡ nat_cmp v w
    → here ≡ nat_cmp x y → ordering_then above here ≡ nat_cmp (x + 2 ^ 32 * v) (y + 2 ^ 32 * w)
limb_below x y v w hx hy Less here e f =
    let higher : v < w = ranked v w Less e in
    nat_cmp_is (x + 2 ^ 32 * v) (y + 2 ^ 32 * w) Less (omega arith)
limb_below x y v w hx hy Greater here e f =
    let higher : w < v = ranked v w Greater e in
    nat_cmp_is (x + 2 ^ 32 * v) (y + 2 ^ 32 * w) Greater (omega arith)
limb_below x y v w hx hy Equal Less e f =
    let higher : v ≡ w = ranked v w Equal e in
    let lower : x < y = ranked x y Less f in
    nat_cmp_is (x + 2 ^ 32 * v) (y + 2 ^ 32 * w) Less (omega arith)
limb_below x y v w hx hy Equal Equal e f =
    let higher : v ≡ w = ranked v w Equal e in
    let lower : x ≡ y = ranked x y Equal f in
    nat_cmp_is (x + 2 ^ 32 * v) (y + 2 ^ 32 * w) Equal (omega arith)
limb_below x y v w hx hy Equal Greater e f =
    let higher : v ≡ w = ranked v w Equal e in
    let lower : y < x = ranked x y Greater f in
    nat_cmp_is (x + 2 ^ 32 * v) (y + 2 ^ 32 * w) Greater (omega arith)

last : (a : Ordering) → ordering_then a Equal ≡ a
last Less = refl
last Equal = refl
last Greater = refl

-- The limbs' answers one after another, and each after those of the limbs above it together.
regrouped : (a b c d e f : Ordering)
    → ordering_then a
    (ordering_then b (ordering_then c (ordering_then d (ordering_then e (ordering_then f Equal)))))
    ≡ ordering_then (ordering_then (ordering_then (ordering_then (ordering_then a b) c) d) e) f
regrouped a b c d e f =
    rw last
    (then_next a b _ refl refl ∙ then_next (ordering_then a b) c _ refl refl
    ∙ then_next (ordering_then (ordering_then a b) c) d _ refl refl
    ∙ then_next (ordering_then (ordering_then (ordering_then a b) c) d) e f refl refl)

module _ {a b : List ℕ} (s : SixLimbs a) (t : SixLimbs b) where
  abbrev here : ℕ → Ordering
  here i = nat_cmp (get_or a i 0) (get_or b i 0)

  at_limb : (i : ℕ) (v w : ℕ) (above : Ordering) → above ≡ nat_cmp v w
      → ordering_then above (here i)
      ≡ nat_cmp (get_or a i 0 + 2 ^ 32 * v) (get_or b i 0 + 2 ^ 32 * w)
  at_limb i v w above e =
      limb_below (get_or a i 0) (get_or b i 0) v w (s.each i).fits (t.each i).fits above _ e refl

  listed_order : slice_cmp nat_cmp (listed a) (listed b) ≡ nat_cmp (number (listed a)) (number (listed b))
  listed_order =
      regrouped (here 0) (here 1) (here 2) (here 3) (here 4) (here 5)
      ∙ at_limb 5 _ _ _
      (at_limb 4 _ _ _ (at_limb 3 _ _ _ (at_limb 2 _ _ _ (at_limb 1 _ _ _ (at_limb 0 0 0 Equal refl)))))

  pub order_is : slice_cmp nat_cmp a b ≡ nat_cmp (number a) (number b)
  order_is =
      subst (λ (l : List ℕ). slice_cmp nat_cmp l b ≡ nat_cmp (number l) (number b)) (listed_same a s.six)
      (subst (λ (l : List ℕ). slice_cmp nat_cmp (listed a) l ≡ nat_cmp (number (listed a)) (number l))
      (listed_same b t.six) listed_order)

  pub equality_is : pointwise ◌==◌ a b ≡ (number a == number b)
  equality_is = lists_ties nat_cmp unsigned_ties a b ∙ ap is_eq order_is ∙ unsigned_tied (number a) (number b)
