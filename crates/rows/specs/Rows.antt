-- The rows of document 01 that are marked for the check, restated in quarter hours (document 02, R-1), and those of
-- dose by the guide's fractions (R-2), of a table's entries (R-3), of minutes from a shut room (R-5) and of lowest
-- rates (R-6): one list, one computation over the definitions.
use Rattle.refusals.specs.declared.Refusal.{Refusal}
use Rattle.refusals.specs.Grounds.{answer_number}
use Rattle.std.specs.Prelude.{ℕ, suc, ℤ, pos, negsuc, ◌*◌, ◌/◌, Bool, true, false, ◌&&◌, ◌≡◌, refl, eqb, nat_le}
use Rattle.std.specs.Prelude.{List, [], ◌∷◌, ◌++◌, replicate, length, Result, Ok, Err}
use Prim.Native.String.{String}
use Rattle.std.specs.Float.Ieee.{odd, of_bits}
use Rattle.std.specs.Float.{binary64}
use Rattle.std.specs.Int.Count.{count_trailing_zeros}
use Rattle.book.specs.Fields.{scale_of, along}
use Rattle.book.specs.Rates.{max_rate, rates_at}
use Rattle.numbers.specs.Tests.{some_below, some_in}
use Rattle.book.specs.BookGrounds.{book_too_short, count_out_of_range, book_length_wrong, divisor_or_zeros_wrong}
use Rattle.book.specs.BookGrounds.{member_out_of_range, feed_out_of_range, walk, occurrences, feed_not_once}
use Rattle.book.specs.BookGrounds.{feeds_misplaced, feed_not_from_lower, shares_out_too_high}
use Rattle.balance.specs.Balance.{G, in_member_order, reported}
use Rattle.balance.specs.Factors.{factor_answer, factor_list}
use Rattle.minutes.specs.Minutes.{minute, minutes, after_periods}
use Rattle.minutes.specs.Periods.{period_rate_too_high, periods_out_of_range, periods_answer, periods_list}
use Rattle.text.specs.Words.{ascii, decimal, line_feed}
use Rattle.entry.specs.Entry.{exponent_up_to, entry_of}
use Rattle.tables.specs.Answers.{some_rate_too_high, table_answer, table_buffer}
use Rattle.printed.specs.Places.{number_at}
use Rattle.printed.specs.Mark.{mark_of}
use Rattle.marking.specs.Lines.{lines_after, spaced_shares}
use Rattle.marking.specs.Form.{line_of_form, table_not_of_form}
use Rattle.marking.specs.Marks.{mark_in, first_wrong, marks_of}
use Rattle.marking.specs.Text.{text_of, marks_text}
use Rattle.reading.specs.Reading.{amount_of, unit_of, medium_of, whole, whole_answer}
use Rattle.reading.specs.Reading.{reading_unusable, concentration_too_high, intake_answer}
use Rattle.reading.specs.declared.error.ReadingError.{ReadingError}
use Rattle.rounding.specs.Nearest.{nearest}
use Rattle.exposure.specs.Totals.{X, Y}
use Rattle.exposure.specs.Exposure.{residential, worker, exposure_out_of_range}
use Rattle.screening.specs.JobGrounds.{code_unknown, attenuation_out_of_range}
use Rattle.verdict.specs.Verdict.{verdict_order, level}
use Rattle.numbers.specs.Sums.{sum_below}
use Rattle.verdict.specs.WorkingLevels.{micro_levels, working_levels}
use Rattle.screening.specs.Screening.{figures_at, answer_of}
use Rattle.ventilation.specs.Lowest.{first_rate, lowest_of, lowest_number}
use Rattle.exposure.specs.declared.groups.Exposure.{Exposure}
use Rattle.exposure.specs.declared.kind.Kind.{Kind}
use Rattle.screening.specs.declared.job.Answer.{Answer}
use Rattle.verdict.specs.declared.verdict.Verdict.{Verdict}
use Rattle.verdict.specs.declared.verdict.Verdict.TheVariants.{Below, Close, Above}
use Rattle.rows.specs.Encoding.{member, feed, book_bytes, risk_job, dose_job}

-- K / 100: at rate 100 this half-life halves a factor.
abbrev T' : ℕ
T' = 2495329851600

abbrev no_coefficients : List ℕ
no_coefficients = 0 ∷ 0 ∷ 0 ∷ 0 ∷ 0 ∷ []

-- One daughter, with one feed of this share from the parent.
abbrev one_daughter : ℕ → List ℕ
one_daughter share =
    book_bytes 1000 (member 1 no_coefficients 0 ∷ member T' no_coefficients 1 ∷ []) (feed share 0 0 ∷ [])

-- Members 1 and 2 half each from 0, member 3 wholly from both.
abbrev diamond : List ℕ
diamond =
    book_bytes 1000
    (member T' no_coefficients 0 ∷ member T' no_coefficients 1 ∷ member T' no_coefficients 2
    ∷ member T' no_coefficients 3
    ∷ [])
    (feed 50000 0 0 ∷ feed 50000 0 0 ∷ feed 100000 1 4 ∷ feed 100000 2 0 ∷ [])

-- The parent alone, with h = 1,000.
abbrev alone : List ℕ
alone = book_bytes 1000 (member 1 (1000 ∷ 0 ∷ 0 ∷ 0 ∷ 0 ∷ []) 0 ∷ []) []

-- The parent alone, with an inhalation dose coefficient of 1,000.
abbrev alone_at_dose : List ℕ
alone_at_dose = book_bytes 1000 (member 1 (0 ∷ 0 ∷ 1000 ∷ 0 ∷ 0 ∷ []) 0 ∷ []) []

-- The first row's chain, with h = 1,000 for member 1.
abbrev daughter_at_risk : List ℕ
daughter_at_risk =
    book_bytes 1000 (member 1 no_coefficients 0 ∷ member T' (1000 ∷ 0 ∷ 0 ∷ 0 ∷ 0 ∷ []) 1 ∷ []) (feed 100000 0 0 ∷ [])

-- The bits of f64s, as a job has them: 0.5, 1.0, 3.0, 4.0, 10.0 and 100.0.
abbrev half : ℕ
half = 0x3fe0000000000000

abbrev one : ℕ
one = 0x3ff0000000000000

abbrev three : ℕ
three = 0x4008000000000000

abbrev four : ℕ
four = 0x4010000000000000

abbrev ten : ℕ
ten = 0x4024000000000000

abbrev hundred : ℕ
hundred = 0x4059000000000000

pub data Row : Type 0 where
  -- the factor call at a rate on a book leaves these factors
  factors : ℕ → List ℕ → List ℕ → Row
  -- for a kind, an exposure has this X and this Y
  exposed : Kind → Exposure → ℕ → ℕ → Row
  -- in a unit, an f64 of these bits is so many mBq/m³
  reads : ℕ → ℕ → ℕ → Row
  -- in a medium, a unit and at an attenuation, a reading of these bits without uncertainty is this concentration
  measures : ℕ → ℕ → ℕ → ℕ → ℕ → Row
  -- at C, Fm and W there are so many micro working levels
  working : ℕ → ℕ → ℕ → ℕ → Row
  -- a job is screened with this verdict
  judged : List ℕ → Verdict → Row
  -- a job is screened with this level
  levelled : List ℕ → ℕ → Row
  -- a factor has this entry in a table
  entered : ℕ → String → Row
  -- the table call at these rates on a book answers the length of these lines, and leaves them in a buffer of that
  -- length
  tabled : List ℕ → List ℕ → List String → Row
  -- what is told of a table of these lines, by a book
  compared : List ℕ → List String → List String → Row
  -- after these periods the members of a book have these factors
  aired : List ℕ → List ℕ → List ℕ → Row
  -- these periods are refused with this number, whatever the room
  not_aired : List ℕ → ℕ → Row
  -- the lowest rate at which the verdict on a job is 'below'
  enough : List ℕ → ℕ → Row

same_list : List ℕ → List ℕ → Bool
same_list [] [] = true
same_list [] (y ∷ ys) = false
same_list (x ∷ xs) [] = false
same_list (x ∷ xs) (y ∷ ys) = eqb x y && same_list xs ys

lines : List String → List ℕ
lines [] = []
lines (line ∷ more) = ascii line ++ line_feed ++ lines more

number_is : Result ℕ ReadingError → ℕ → Bool
number_is (Ok m) n = eqb m n
number_is (Err error) n = false

verdict_is : Result Answer Refusal → Verdict → Bool
verdict_is (Ok answer) v = eqb (verdict_order answer.figures.verdict) (verdict_order v)
verdict_is (Err refusal) v = false

level_is : Result Answer Refusal → ℕ → Bool
level_is (Ok answer) n = eqb answer.figures.level n
level_is (Err refusal) n = false

-- An answer's number is a count, or minus that of a refusal.
counts : ℤ → ℕ → Bool
counts (pos k) n = eqb k n
counts (negsuc k) n = false

refuses : ℤ → ℕ → Bool
refuses (pos k) n = false
refuses (negsuc k) n = eqb (suc k) n

pub holds : Row → Bool
holds (factors v book expected) =
    counts (answer_number (factor_answer v book (length expected))) (length expected)
    && same_list (factor_list v book (replicate (length expected) 0)) expected
holds (exposed kind e x y) = eqb (X kind e) x && eqb (Y kind e) y
holds (reads unit bits n) = number_is (whole_answer (amount_of unit (of_bits binary64 bits))) n
holds (measures medium unit af bits C) =
    number_is
    (intake_answer (unit_of unit) (medium_of medium) af
    (record { value = of_bits binary64 bits; uncertainty = of_bits binary64 0 }))
    C
holds (working C Fm W n) = eqb (micro_levels C Fm W) n
holds (judged job v) = verdict_is (answer_of job) v
holds (levelled job n) = level_is (answer_of job) n
holds (entered factor text) = same_list (entry_of factor) (ascii text)
holds (tabled rates book text) =
    counts (answer_number (table_answer rates book (length (lines text)))) (length (lines text))
    && same_list (table_buffer rates book (replicate (length (lines text)) 0)) (lines text)
holds (compared book table text) = same_list (marks_text (lines table) book) (lines text)
holds (aired periods book expected) =
    counts (answer_number (periods_answer periods book (length expected))) (length expected)
    && same_list (periods_list periods book (replicate (length expected) 7)) expected
holds (not_aired periods n) =
    refuses (answer_number (periods_answer periods (one_daughter 100000) 2)) n
    && same_list (periods_list periods (one_daughter 100000) (7 ∷ 7 ∷ [])) (7 ∷ 7 ∷ [])
holds (enough job v) = counts (lowest_number (lowest_of job)) v && nat_le v max_rate

pub all_hold : List Row → Bool
all_hold [] = true
all_hold (row ∷ rows) = holds row && all_hold rows

pub marked : List Row
marked =
    factors 0 (one_daughter 100000) (G ∷ G ∷ [])
    ∷ factors 100 (one_daughter 100000) (G ∷ 549755813888 ∷ [])
    ∷ factors 200 (one_daughter 100000) (G ∷ 366503875925 ∷ [])
    ∷ factors 0 (one_daughter 33333) (G ∷ 366500210886 ∷ [])
    ∷ factors 0 diamond (G ∷ G / 2 ∷ G / 2 ∷ G ∷ [])
    ∷ factors 100 diamond (G ∷ G / 4 ∷ G / 4 ∷ G / 4 ∷ [])
    ∷ exposed Kind.Risk residential 15456000 873600
    ∷ exposed Kind.Risk worker 12000000 200000
    ∷ exposed Kind.Dose residential 59472000 3360000
    ∷ exposed Kind.Dose worker 48000000 800000
    ∷ reads 0 four 148000
    ∷ reads 1 half 19
    ∷ measures 2 0 1000 hundred 16058
    ∷ measures 1 0 30000 four 4440
    ∷ working 148000 400000 1000 16000
    ∷ judged (risk_job 0 1610 one residential alone) Below
    ∷ judged (risk_job 0 1609 one residential alone) Above
    ∷ levelled (risk_job 0 1610 one residential alone) 37000
    ∷ judged (risk_job 200 1610 three residential daughter_at_risk) Close
    ∷ judged (risk_job 200 1611 three residential daughter_at_risk) Below
    ∷ judged (risk_job 200 1609 three residential daughter_at_risk) Above
    ∷ judged (dose_job 0 6195 ten residential alone_at_dose) Below
    ∷ judged (dose_job 0 6194 ten residential alone_at_dose) Above
    ∷ levelled (dose_job 0 6195 ten residential alone_at_dose) 370000
    ∷ entered 0 "0.000E+00"
    ∷ entered 1 "9.095E-13"
    ∷ entered (9997 * G / 10000) "9.997E-01"
    ∷ entered (99996 * G / 100000) "1.000E+00"
    ∷ entered (5 * G / 32) "1.563E-01"
    ∷ entered G "1.000E+00"
    ∷ tabled (0 ∷ 100 ∷ 200 ∷ []) (one_daughter 100000)
    ("0 1.000E+00 1.000E+00" ∷ "100 1.000E+00 5.000E-01" ∷ "200 1.000E+00 3.333E-01" ∷ [])
    ∷ compared (one_daughter 100000)
    ("0 1.000E+00 1.000E+00" ∷ "100 1.000E+00 5.000E-01" ∷ "200 1.000E+00 3.334E-01" ∷ [])
    ("right 5" ∷ "close 0" ∷ "wrong 1" ∷ "first 3 1" ∷ [])
    ∷ compared (one_daughter 100000) ("100 1.000E+00 5.000E-01" ∷ [])
    ("right 2" ∷ "close 0" ∷ "wrong 0" ∷ "first none" ∷ [])
    ∷ compared (one_daughter 100000) ("100 1.000E+00 9.999E+00" ∷ [])
    ("right 1" ∷ "close 0" ∷ "wrong 1" ∷ "first 1 1" ∷ [])
    ∷ compared (one_daughter 100000) ("0100 1.000E+00 5.000E-01" ∷ []) ("refused 24" ∷ [])
    ∷ compared (one_daughter 100000) ("100001 1.000E+00 5.000E-01" ∷ []) ("refused 24" ∷ [])
    ∷ aired (0 ∷ 1 ∷ []) (one_daughter 100000) (G ∷ G / 61 ∷ [])
    ∷ aired (300 ∷ 2 ∷ []) (one_daughter 100000) (G ∷ 33285996544 ∷ [])
    ∷ aired (300 ∷ 1 ∷ 0 ∷ 1 ∷ []) (one_daughter 100000) (G ∷ 34923012767 ∷ [])
    ∷ aired (300 ∷ 1 ∷ []) diamond (G ∷ 8589934592 ∷ 8589934592 ∷ 268435456 ∷ [])
    ∷ not_aired [] 22
    ∷ not_aired (0 ∷ 0 ∷ []) 22
    ∷ not_aired (0 ∷ 1441 ∷ []) 22
    ∷ not_aired (0 ∷ 1 ∷ 100000 ∷ []) 22
    ∷ not_aired (0 ∷ 0 ∷ 100001 ∷ []) 3
    ∷ enough (risk_job 7 1610 one residential alone) 0
    ∷ enough (risk_job 0 1611 three residential daughter_at_risk) 200
    ∷ enough (risk_job 100000 1610 three residential daughter_at_risk) 201
    ∷ []

pub every_marked_row_holds : all_hold marked ≡ true
unfolding
    scale_of rates_at first_rate counts refuses marked all_hold holds same_list lines decimal exponent_up_to entry_of
    some_rate_too_high along some_below some_in book_too_short count_out_of_range book_length_wrong
    divisor_or_zeros_wrong member_out_of_range feed_out_of_range walk occurrences feed_not_once feeds_misplaced
    feed_not_from_lower shares_out_too_high in_member_order reported minute minutes after_periods period_rate_too_high
    periods_out_of_range nearest exposure_out_of_range whole reading_unusable concentration_too_high code_unknown
    lines_after spaced_shares number_at line_of_form table_not_of_form mark_of mark_in first_wrong marks_of text_of
    attenuation_out_of_range sum_below level working_levels figures_at number_is verdict_is level_is odd of_bits
    count_trailing_zeros
every_marked_row_holds = refl
