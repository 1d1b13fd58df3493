-- A text handed to a writer at the start of its list is the first bytes of the list, and the other bytes are as they
-- were. One that has no room is not written.
use Rattle.std.proofs.Common.{ℕ, ◌≤◌, ◌<◌, ◌≡◌, Option, Some, None, List, ◌++◌, length, take, drop}
use Rattle.std.proofs.Common.{arith, length-append, refl, ap, sym, ◌∙◌, lt-ltb, le-ltb}
use Rattle.std.proofs.lemmas.List.{take-append-drop, take_at}
use Rattle.io.specs.Counts.{IsPrefixLen}
use Rattle.text.specs.declared.Writer.{Writer}
use Rattle.text.specs.Lent.{Written}
use Rattle.text.specs.Answered.{length_written, bytes_written}

module _ (text list : List ℕ) where
  pub not_written :
      length list < length text → (None ≡ length_written text (length list)) × (list ≡ bytes_written text list)
  not_written short = rw (lt-ltb (length list) (length text) short) (refl, refl)

  pub written :
      {n : ℕ} {now : List ℕ} → length text ≤ length list → n ≡ length text → now ≡ text ++ drop (length text) list →
      (Some n ≡ length_written text (length list)) × (now ≡ bytes_written text list)
  written fits answered is = rw (le-ltb (length list) (length text) fits, answered) (refl, is)

  -- What a caller with room for the text has: the text in the first places.
  module _ (fits : length text ≤ length list) where
    pub roomy_answer : {n : Option ℕ} → n ≡ length_written text (length list) → n ≡ Some (length text)
    roomy_answer answered = answered ∙ (rw (le-ltb (length list) (length text) fits) refl)

    pub roomy_bytes : {now : List ℕ} → now ≡ bytes_written text list → now ≡ text ++ drop (length text) list
    roomy_bytes is = is ∙ (rw (le-ltb (length list) (length text) fits) refl)

  pub first :
      {n : ℕ} {now : List ℕ} → n ≡ length text → now ≡ text ++ drop (length text) list →
      IsPrefixLen n now × (take n now ≡ text)
  first answered is =
      let taken = take_at text (drop (length text) list) (length text) refl in
      rw (answered, is) ((rw length-append (omega arith), sym (ap length taken)), taken)

  pub whole :
      {before after : Writer} → before.written ≡ 0 → before.out.now ≡ list → Written before text after →
      (after.written ≡ length text) × (after.out.now ≡ text ++ drop (length text) list)
  whole {before} {after} start same put =
      let size : after.written ≡ length text = omega (arith, put.place) in
      let front : take after.written after.out.now ≡ text = put.text ∙ ap (λ n. take n before.out.now ++ text) start in
      let back : drop after.written after.out.now ≡ drop (length text) list =
      put.rest ∙ ap (λ n. drop n before.out.now) size ∙ ap (drop (length text)) same in (
        size,
        sym (take-append-drop after.written after.out.now)
            ∙ ap (λ bytes. bytes ++ drop after.written after.out.now) front
            ∙ ap (λ bytes. text ++ bytes) back,
      )

-- What a text that is measured first is read for.
pub ruleset lent = (not_written, written, whole)
