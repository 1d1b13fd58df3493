-- An input longer than any accepted job is refused on the ground on which its first bytes are, and so is a second set
-- longer than any that is accepted. A refusal is the whole report, and the whole line of the lowest rate.
use Rattle.std.proofs.Common.{◌≡◌, refl, ℕ, ◌+◌, ◌<◌, List, length, take, ap, sym, ◌∙◌}
use Rattle.std.specs.Prelude.{Err}
use Rattle.refusals.specs.declared.Refusal.{Refusal}
use Rattle.screening.specs.JobGrounds.{checked_with}
use Rattle.coefficients.specs.Sets.{longest_set}
use Rattle.refusals.specs.Grounds.{Checked}
use Rattle.screening.specs.Job.{longest_job, book_of}
use Rattle.screening.specs.Screening.{answer_for}
use Rattle.screening.proofs.LongInput.{RefusedAlike, long_refused, long_set_refused}
use Rattle.ventilation.specs.Lowest.{lowest_for}
use Rattle.report.specs.Report.{text_of, report_with}
use Rattle.report.specs.RateLine.{line_of, rate_line_with}
use Rattle.report.specs.BySet.{named_text, partner_text}

-- What the checks alone decide where they refuse is the same of both.
refused_same :
    {a set b other : List ℕ} {A : Type 0} → RefusedAlike a set b other → (says : Checked → List ℕ → List ℕ → A) →
    ((refusal : Refusal) → says (Err refusal) a set ≡ says (Err refusal) b other) →
    says (checked_with a (book_of a) set) a set ≡ says (checked_with b (book_of b) other) b other
refused_same {a} {set} {b} {other} alike says refused =
    ap (λ found. says found a set) alike.first
    ∙ refused alike.refusal
    ∙ ap (λ found. says found b other) (sym alike.second)

pub long_report :
    (job second : List ℕ) → longest_job < length job →
    report_with (take (longest_job + 1) job) second ≡ report_with job second
long_report job second long =
    refused_same (long_refused job second long) (λ found job second. text_of (answer_for found job second)) (λ r. refl)

pub long_line :
    (job second : List ℕ) → longest_job < length job →
    rate_line_with (take (longest_job + 1) job) second ≡ rate_line_with job second
long_line job second long =
    refused_same (long_refused job second long) (λ found job second. line_of (lowest_for found job second)) (λ r. refl)

abbrev partner_for : Checked → List ℕ → List ℕ → List ℕ
partner_for found job second = named_text (answer_for found job second) (lowest_for found job second)

pub long_partner :
    (job second : List ℕ) → longest_job < length job →
    partner_text (take (longest_job + 1) job) second ≡ partner_text job second
long_partner job second long = refused_same (long_refused job second long) partner_for (λ r. refl)

pub long_set :
    (job second : List ℕ) → longest_set < length second →
    partner_text job (take (longest_set + 1) second) ≡ partner_text job second
long_set job second long = refused_same (long_set_refused job second long) partner_for (λ r. refl)
