-- Numbered grounds for refusal (document 01, "Grounds for refusal, in checking order"), and the first that is met.
use Rattle.std.specs.Prelude.{ℕ, ℤ, pos, neg_ℤ, Bool, cond, Result, Ok, Err, List, [], ◌∷◌, ◌++◌, length, drop}
use Rattle.refusals.specs.declared.Refusal.{Refusal}

-- The number of each refusal: 1 to 19 are document 01's, later ones document 02's.
abbrev pub refusal_number : Refusal → ℕ
refusal_number Refusal.JobTooShort = 1
refusal_number Refusal.CodeUnknown = 2
refusal_number Refusal.RateTooHigh = 3
refusal_number Refusal.TargetTooHigh = 4
refusal_number Refusal.AttenuationOutOfRange = 5
refusal_number Refusal.ExposureOutOfRange = 6
refusal_number Refusal.ReadingUnusable = 7
refusal_number Refusal.ConcentrationTooHigh = 8
refusal_number Refusal.BookTooShort = 9
refusal_number Refusal.CountOutOfRange = 10
refusal_number Refusal.BookLengthWrong = 11
refusal_number Refusal.DivisorOrZerosWrong = 12
refusal_number Refusal.MemberOutOfRange = 13
refusal_number Refusal.FeedOutOfRange = 14
refusal_number Refusal.FeedNotOnce = 15
refusal_number Refusal.FeedsMisplaced = 16
refusal_number Refusal.FeedNotFromLower = 17
refusal_number Refusal.SharesOutTooHigh = 18
refusal_number Refusal.ListTooShort = 19
refusal_number Refusal.RateCountOutOfRange = 20
refusal_number Refusal.BufferTooShort = 21
refusal_number Refusal.PeriodsOutOfRange = 22
refusal_number Refusal.SecondSetOutOfRange = 23
refusal_number Refusal.TableNotOfForm = 24

-- The number that a call answers with a refusal: minus that of the ground.
abbrev pub refused_number : Refusal → ℤ
refused_number refusal = neg_ℤ (pos (refusal_number refusal))

pub record Ground : Type 0 where
  pub refusal : Refusal
  pub met : Bool

abbrev pub ground_of : Refusal → Bool → Ground
ground_of r b = record { refusal = r; met = b }

-- What checks find: nothing, or why something is refused.
abbrev pub Checked : Type 0
Checked = Result Unit Refusal

-- The first ground that is met, in checking order.
abbrev pub first_met : List Ground → Checked
first_met [] = Ok tt
first_met (g ∷ gs) = cond g.met (Err g.refusal) (first_met gs)

-- What the earlier checks find, and where they pass what the later ones find.
abbrev pub or_else : Checked → Checked → Checked
or_else (Err refusal) later = Err refusal
or_else (Ok _) later = later

-- What a call answers: accepted, its answer; a refusal is the refusal alone.
abbrev pub answer_if : {A : Type 0} → Checked → A → Result A Refusal
answer_if (Ok _) answer = Ok answer
answer_if (Err refusal) answer = Err refusal

-- What it leaves in a lent list: accepted,
-- the first places hold what it wrote and no others are written; a refusal leaves the list as it was.
abbrev pub written_if : Checked → List ℕ → List ℕ → List ℕ
written_if (Ok _) written list = written ++ drop (length written) list
written_if (Err _) written list = list

-- The number of an answer, as every caller gets it: the number itself, or minus the number of the refusal.
abbrev pub answer_number : Result ℕ Refusal → ℤ
answer_number (Ok n) = pos n
answer_number (Err refusal) = refused_number refusal
