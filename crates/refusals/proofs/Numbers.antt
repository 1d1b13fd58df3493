-- The numbers of the grounds are small, and none is 0, so that no refusal is answered as a count.
use Rattle.std.proofs.Common.{◌≡◌, refl, ℕ, zero, suc, ◌<◌, pos, neg_ℤ}
use native.Mathlib.Omega.{arith}
use Rattle.refusals.specs.Grounds.{refusal_number, refused_number}
use Rattle.refusals.specs.declared.Refusal.{Refusal}

pub refusal_below_32 : (refusal : Refusal) → refusal_number refusal < 32
refusal_below_32 Refusal.JobTooShort = omega arith
refusal_below_32 Refusal.CodeUnknown = omega arith
refusal_below_32 Refusal.RateTooHigh = omega arith
refusal_below_32 Refusal.TargetTooHigh = omega arith
refusal_below_32 Refusal.AttenuationOutOfRange = omega arith
refusal_below_32 Refusal.ExposureOutOfRange = omega arith
refusal_below_32 Refusal.ReadingUnusable = omega arith
refusal_below_32 Refusal.ConcentrationTooHigh = omega arith
refusal_below_32 Refusal.BookTooShort = omega arith
refusal_below_32 Refusal.CountOutOfRange = omega arith
refusal_below_32 Refusal.BookLengthWrong = omega arith
refusal_below_32 Refusal.DivisorOrZerosWrong = omega arith
refusal_below_32 Refusal.MemberOutOfRange = omega arith
refusal_below_32 Refusal.FeedOutOfRange = omega arith
refusal_below_32 Refusal.FeedNotOnce = omega arith
refusal_below_32 Refusal.FeedsMisplaced = omega arith
refusal_below_32 Refusal.FeedNotFromLower = omega arith
refusal_below_32 Refusal.SharesOutTooHigh = omega arith
refusal_below_32 Refusal.ListTooShort = omega arith
refusal_below_32 Refusal.RateCountOutOfRange = omega arith
refusal_below_32 Refusal.BufferTooShort = omega arith
refusal_below_32 Refusal.PeriodsOutOfRange = omega arith
refusal_below_32 Refusal.SecondSetOutOfRange = omega arith
refusal_below_32 Refusal.TableNotOfForm = omega arith

pub refusal_above_0 : (refusal : Refusal) → 0 < refusal_number refusal
refusal_above_0 Refusal.JobTooShort = omega arith
refusal_above_0 Refusal.CodeUnknown = omega arith
refusal_above_0 Refusal.RateTooHigh = omega arith
refusal_above_0 Refusal.TargetTooHigh = omega arith
refusal_above_0 Refusal.AttenuationOutOfRange = omega arith
refusal_above_0 Refusal.ExposureOutOfRange = omega arith
refusal_above_0 Refusal.ReadingUnusable = omega arith
refusal_above_0 Refusal.ConcentrationTooHigh = omega arith
refusal_above_0 Refusal.BookTooShort = omega arith
refusal_above_0 Refusal.CountOutOfRange = omega arith
refusal_above_0 Refusal.BookLengthWrong = omega arith
refusal_above_0 Refusal.DivisorOrZerosWrong = omega arith
refusal_above_0 Refusal.MemberOutOfRange = omega arith
refusal_above_0 Refusal.FeedOutOfRange = omega arith
refusal_above_0 Refusal.FeedNotOnce = omega arith
refusal_above_0 Refusal.FeedsMisplaced = omega arith
refusal_above_0 Refusal.FeedNotFromLower = omega arith
refusal_above_0 Refusal.SharesOutTooHigh = omega arith
refusal_above_0 Refusal.ListTooShort = omega arith
refusal_above_0 Refusal.RateCountOutOfRange = omega arith
refusal_above_0 Refusal.BufferTooShort = omega arith
refusal_above_0 Refusal.PeriodsOutOfRange = omega arith
refusal_above_0 Refusal.SecondSetOutOfRange = omega arith
refusal_above_0 Refusal.TableNotOfForm = omega arith

not_negative : (k n : ℕ) → 0 < k → neg_ℤ (pos k) ≡ pos n → ⊥
not_negative zero n some e = absurd (omega arith)
not_negative (suc k) n some e = cc

same_negative : (k n : ℕ) → neg_ℤ (pos k) ≡ neg_ℤ (pos n) → k ≡ n
same_negative zero zero e = refl
same_negative zero (suc n) e = cc
same_negative (suc k) zero e = cc
same_negative (suc k) (suc n) e = cc

pub same_number : (r s : Refusal) → refused_number r ≡ refused_number s → refusal_number r ≡ refusal_number s
same_number r s e = same_negative (refusal_number r) (refusal_number s) e

pub no_count : (refusal : Refusal) (n : ℕ) → refused_number refusal ≡ pos n → ⊥
no_count refusal n e = not_negative (refusal_number refusal) n (refusal_above_0 refusal) e
