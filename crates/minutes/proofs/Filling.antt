-- A minute in the lent list itself: below the next member's place stand this minute's factors, and from it on the old
-- ones. None passes the exact steady factor at rate 0, which is at most 1, so no inflow is too large for a word.
use Prim.Native.Nat.{ℕ, zero, suc, ◌+◌, ◌-◌, ◌*◌, ◌/◌, ◌≤◌, ◌<◌}
use native.Mathlib.Nat.{le_of_mul-le-mul_left}
use native.Mathlib.Omega.{arith}
use mathlib.Core.Path.{◌≡◌, sym, ap, ◌∙◌}
use mathlib.Core.List.{List, ◌++◌}
use lib.ListN.{get_or, set, drop}
use lib.Seq.{set-get_or}
use Rattle.book.specs.Fields.{members, scale_of, half_life}
use Rattle.book.specs.Held.{filled}
use Rattle.book.proofs.Filled.{Filled, filled_ahead}
use Rattle.book.specs.Rates.{rates_at}
use Rattle.book.proofs.Rates.{scale_positive, scale_within, rate_is, rates_rise}
use Rattle.balance.proofs.Filling.FilledFactors.{word_holds}
use Rattle.balance.specs.Chain.{Chain, chain_of}
use Rattle.balance.specs.Sound.{Sound}
use Rattle.balance.specs.Balance.{G, K, inflow}
use Rattle.balance.specs.Inflow.{Fed}
use Rattle.balance.proofs.FromBook.AcceptedSound.{accepted_sound}
use Rattle.balance.proofs.AnyChain.Bounds.{exact_inflow}
use Rattle.balance.proofs.AnyChain.Equations.{ExactFactors}
use Rattle.balance.proofs.Filling.FilledInOrder.{inflow_filled, next_filled, parent_filled, filled_in_order}
use Rattle.balance.proofs.AnyChain.Inflow.{inflow_of, inflow_order}
use Rattle.balance.proofs.AnyChain.MemberOrder.{made_inflow}
use Rattle.balance.proofs.AnyChain.Numerators.{denominator_pos}
use Rattle.minutes.specs.Minutes.{once_a_minute, minute}
use Rattle.minutes.specs.Private.Holding.{Holds, minute_at}
use Rattle.minutes.proofs.MinuteEquations.{aged_stays_below}
use Rattle.minutes.proofs.Minute.{renewing, renewed, renewed_ages}
use Rattle.minutes.proofs.Holding.{members_are, last_counts, unaired}

-- The inflow of factors that are below exact ones.
inflow_at_most :
    {scale : ℕ} {chain : Chain} {rate x : ℕ → ℕ} {P : ℕ} (last : ℕ) (new : ℕ → ℕ) → 0 < scale → 0 < P →
    (sound : Sound scale chain) → ExactFactors scale chain rate last P x → ((j : ℕ) → j ≤ last → P * new j ≤ G * x j) →
    (k : ℕ) → suc k < chain.count → k ≤ last → inflow_of new (chain.feeds (suc k)) ≤ scale * G
inflow_at_most {scale} {chain} {rate} {x} {P} last new pos pos_p sound exact below k l le =
    let cut : ExactFactors scale chain rate k P x =
    record { parent = exact.parent; later = λ j h. exact.later j (omega arith) } in
    let flows =
    inflow_order P G new x (suc k) (chain.feeds (suc k)) (sound.from_lower (suc k) l) (λ j m. below j (omega arith)) in
    let most = exact_inflow pos sound k (omega arith) cut l in
    le_of_mul-le-mul_left {k = P} (omega arith) pos_p

module _ {book old : List ℕ} (holds : Holds book old) (v : ℕ) where
  abbrev new : ℕ → ℕ
  new = renewed (scale_of book) (chain_of book) (rates_at book v) old

  sound : Sound (scale_of book) (chain_of book)
  sound = accepted_sound book holds.accepted

  inflow_fits :
      (i : ℕ) {now : List ℕ} → 1 ≤ i → i < members book → Filled new old (members book) i now →
      inflow now ((chain_of book).feeds i) ≤ scale_of book * G
  inflow_fits zero later l filling = absurd (omega arith)
  inflow_fits (suc i) later l filling =
      let last = members book - 1 in
      let here = last_counts book holds.accepted in
      let exact = unaired book holds.accepted in
      let aged = renewed_ages (scale_of book) (chain_of book) (rates_at book v) sound last here old in
      let below =
      aged_stays_below (scale_positive book) sound last here
      (λ k. rates_rise book 0 v k (omega arith)) exact aged holds.below in
      let part = renewing (scale_of book) (chain_of book) (rates_at book v) old in
      let positive = denominator_pos (scale_of book) (chain_of book) (rates_at book 0) (scale_positive book) last in
      rw (inflow_filled (chain_of book) part sound i l filling, made_inflow (chain_of book) part sound i l)
      (inflow_at_most last new (scale_positive book) positive sound exact below i l (omega arith))

  pub minute_fed : (i : ℕ) {now : List ℕ} → 1 ≤ i → i < members book → Filled new old (members book) i now →
      Fed book i now
  minute_fed i later l filling =
      record {
        member = l;
        enough = omega (arith, filling.capacity, filling.size);
        fits = word_holds (scale_within book) (inflow_fits i later l filling);
      }

  -- The new factor, worked out from what the code has, fills the next place.
  pub renewed_filled :
      (i : ℕ) {now : List ℕ} {summed scale life factor : ℕ} →
      1 ≤ i → i < members book → Filled new old (members book) i now → summed ≡ inflow now ((chain_of book).feeds i) →
      scale ≡ scale_of book → life ≡ half_life book i →
      factor ≡ (once_a_minute * life * get_or now i 0 + K * (summed / scale)) / (K + (once_a_minute + v) * life) →
      Filled new old (members book) (i + 1) (set now i factor)
  renewed_filled i later l filling sums scaled lives made =
      next_filled (chain_of book) (renewing (scale_of book) (chain_of book) (rates_at book v) old) sound i
      later l l filling
      (rw (sums, scaled, lives, filled_ahead 0 filling l, rate_is book v i) at made)

  -- The parent's place holds G already.
  held : set old 0 G ≡ old
  held = ap (set old 0) (sym holds.parent) ∙ set-get_or old 0 0

  pub held_filled : Filled new old (members book) 1 old
  held_filled =
      let some : 1 ≤ members book = omega (arith, members_are book holds.accepted) in
      rw held at (parent_filled (chain_of book) (renewing (scale_of book) (chain_of book) (rates_at book v) old) old
      some holds.enough)

  pub minute_filled : filled (members book) new old ≡ minute_at book v old ++ drop (members book) old
  unfolding minute
  minute_filled =
      let some : 1 ≤ members book = omega (arith, members_are book holds.accepted) in
      rw held at (filled_in_order (chain_of book) (renewing (scale_of book) (chain_of book) (rates_at book v) old)
      (members book) old some)
