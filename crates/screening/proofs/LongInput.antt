-- No accepted job is longer than `longest_job`: its book has at most 16 members and 64 feeds. A longer input is refused
-- at ground 11 or before; those grounds read lengths, the job's own fields and the book's two counts.
use Rattle.std.specs.Prelude.{Ok, Err}
use Prim.Native.Nat.{ℕ, ◌+◌, ◌-◌, ◌<◌, ◌≤◌}
use native.Mathlib.Nat.{le_trans}
use native.Mathlib.Omega.{arith}
use mathlib.Core.Path.{◌≡◌, refl, ap, ap₂, sym, ◌∙◌}
use mathlib.Core.Bool.{false}
use mathlib.Core.List.{List, []}
use lib.Dec.{ltb}
use lib.ListN.{length, get_or, take, length-drop}
use lib.Seq.{get_or-take, get_or-drop, length-take-le}
use borrow.Author.Tests.{le-ltb}
use Rattle.refusals.specs.Grounds.{first_met, or_else, Checked}
use Rattle.refusals.specs.declared.Refusal.{Refusal}
use Rattle.refusals.proofs.FirstMet.{first_of_both}
use Rattle.book.specs.Fields.{longest_book}
use Rattle.book.proofs.Ranges.{few_members}
use Rattle.coefficients.specs.Sets.{longest_set}
use Rattle.coefficients.proofs.Lent.{too_long}
use Rattle.coefficients.specs.SetGrounds.{set_grounds}
use Rattle.book.proofs.LongBook.{ground_of_long, long_book}
use Rattle.book.specs.Rates.{max_rate}
use Rattle.screening.specs.Job.{job_length, longest_job, book_of}
use Rattle.screening.specs.JobGrounds.{checked_with, checked_job, job_grounds, field_grounds, reading_grounds}
use Rattle.screening.proofs.JobChecks.{checked_by_parts, found_by_set, job_passes}
use Rattle.screening.proofs.SameBytes.{SameFields, start_same, rate_same, fields_found_same, reading_found_same}

-- Two inputs too long to be accepted, with the same job and the same counts of members and feeds.
record SameStart (a b : List ℕ) : Type 0 where
  byte : (k : ℕ) → k < job_length + 2 → get_or a k 0 ≡ get_or b k 0
  first_long : longest_job < length a
  second_long : longest_job < length b

-- Two inputs, each with what is lent beside it, that are refused on the same ground.
pub record RefusedAlike (a set b other : List ℕ) : Type 0 where
  pub refusal : Refusal
  pub first : checked_with a (book_of a) set ≡ Err refusal
  pub second : checked_with b (book_of b) other ≡ Err refusal

-- The refusal where the last checks refuse: it is theirs if none is earlier.
abbrev earliest : Checked → Checked → Refusal → Refusal
earliest (Err r) reading last = r
earliest (Ok _) (Err r) last = r
earliest (Ok _) (Ok _) last = last

refuses :
    (fields reading : Checked) (last : Refusal) →
    or_else fields (or_else reading (Err last)) ≡ Err (earliest fields reading last)
refuses (Err r) reading last = refl
refuses (Ok _) (Err r) last = refl
refuses (Ok _) (Ok _) last = refl

abbrev fields_found : List ℕ → Checked
fields_found job = first_met (field_grounds job)

abbrev reading_found : List ℕ → Checked
reading_found job = first_met (reading_grounds job)

-- Why the book of a long input is refused, and why the input is: nothing here reads past the two counts.
abbrev book_refusal : List ℕ → Refusal
book_refusal job = ground_of_long (get_or job job_length 0) (get_or job (job_length + 1) 0)

abbrev refusal_of : List ℕ → Refusal
refusal_of job = earliest (fields_found job) (reading_found job) (book_refusal job)

book_long : (size whole : ℕ) → size ≡ whole - job_length → longest_job < whole → longest_book < size
book_long size whole e long = omega arith

long_job :
    (job : List ℕ) → longest_job < length job →
    (set : List ℕ) → checked_with job (book_of job) set ≡ Err (refusal_of job)
long_job job long set =
    checked_by_parts job (book_of job) set
    ∙ ap
    (λ c.
    or_else (fields_found job) (or_else (reading_found job) (or_else c (first_met (set_grounds (book_of job) set)))))
    (long_book (book_of job) (book_long (length (book_of job)) (length job) (length-drop job_length job) long)
    ∙ ap₂ (λ n m. Err (ground_of_long n m)) (get_or-drop job_length job 0 0) (get_or-drop job_length job 1 0))
    ∙ refuses (fields_found job) (reading_found job) (book_refusal job)

long_enough : (job : List ℕ) → longest_job < length job → ltb (length job) job_length ≡ false
long_enough job long = le-ltb (length job) job_length (omega arith)

module _ {a b : List ℕ} (same : SameStart a b) where
  start : (k : ℕ) → k < job_length → get_or a k 0 ≡ get_or b k 0
  start k l = same.byte k (omega arith)

  fields : SameFields a b
  fields = start_same a b start

  fields_same : fields_found a ≡ fields_found b
  fields_same =
      fields_found_same fields (long_enough a same.first_long ∙ sym (long_enough b same.second_long))
      (ap (ltb max_rate) (rate_same a b start))

  book_same : book_refusal a ≡ book_refusal b
  book_same = ap₂ ground_of_long (same.byte job_length (omega arith)) (same.byte (job_length + 1) (omega arith))

  refused_alike : (set : List ℕ) → RefusedAlike a set b set
  refused_alike set =
      record {
        refusal = refusal_of b;
        first =
            long_job a same.first_long set
            ∙ ap₂ (λ f r. Err (earliest f r (book_refusal a))) fields_same (reading_found_same fields)
            ∙ ap (λ last. Err (earliest (fields_found b) (reading_found b) last)) book_same;
        second = long_job b same.second_long set;
      }

first_bytes : (n : ℕ) (job : List ℕ) → longest_job < n → n ≤ length job → SameStart (take n job) job
first_bytes n job long within =
    record {
      byte = λ k l. get_or-take n job k 0 (omega arith);
      first_long = rw (length-take-le n job within) long;
      second_long = le_trans long within;
    }

-- One byte after the longest job, where a program stops reading, the ground is already that of the whole input.
pub long_refused :
    (job set : List ℕ) → longest_job < length job → RefusedAlike (take (longest_job + 1) job) set job set
long_refused job set long = refused_alike (first_bytes (longest_job + 1) job (omega arith) long) set

-- A second set that is too long is refused where the job is not.
with_long_set :
    (job set : List ℕ) (found : Checked) → checked_job job (book_of job) ≡ found → longest_set < length set →
    checked_with job (book_of job) set ≡ or_else found (Err Refusal.SecondSetOutOfRange)
with_long_set job set (Err refusal) is long =
    first_of_both (job_grounds job (book_of job)) (set_grounds (book_of job) set)
    ∙ ap (λ found. or_else found (first_met (set_grounds (book_of job) set))) is
with_long_set job set (Ok tt) is long =
    found_by_set job (book_of job) set is
    ∙ too_long (book_of job) set (few_members (book_of job) (job_passes job (book_of job) [] is).accepted) long

refused_by :
    (found : Checked) (job set other : List ℕ) →
    checked_with job (book_of job) set ≡ or_else found (Err Refusal.SecondSetOutOfRange) →
    checked_with job (book_of job) other ≡ or_else found (Err Refusal.SecondSetOutOfRange) →
    RefusedAlike job set job other
refused_by (Err refusal) job set other first second = record { refusal = refusal; first = first; second = second }
refused_by (Ok tt) job set other first second =
    record { refusal = Refusal.SecondSetOutOfRange; first = first; second = second }

pub long_set_refused :
    (job set : List ℕ) → longest_set < length set → RefusedAlike job (take (longest_set + 1) set) job set
long_set_refused job set long =
    let found = checked_job job (book_of job) in
    let first : longest_set < length (take (longest_set + 1) set) =
    rw (length-take-le (longest_set + 1) set long) (omega arith) in
    refused_by found job (take (longest_set + 1) set) set
    (with_long_set job (take (longest_set + 1) set) found refl first)
    (with_long_set job set found refl long)
