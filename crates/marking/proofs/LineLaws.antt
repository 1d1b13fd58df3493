-- The first line of a text ends at its first line feed, and the lines of what follows come after it. Bytes that are not
-- a line feed run on into the line that they stand in; without one, all of them are one line.
use Rattle.std.proofs.Common.{◌≡◌, ◌≢◌, ℕ, suc, ◌+◌, ◌<◌, List, [], ◌∷◌, ◌++◌, length, get_or, take, drop, cond}
use Rattle.std.proofs.Common.{refl, sym, ap, ◌∙◌, append_assoc, append-nil, arith, add-one, eqb, ne_eqb}
use Rattle.std.proofs.Common.{take-suc, length-take-le, get_or-take}
use lib.Seq.{split_at, take_all}
use Rattle.std.proofs.lemmas.List.{drop_all}
use Rattle.printed.proofs.NoFeeds.{NoFeed}
use Rattle.marking.specs.Lines.{lines, lines_after}

pub no_lines : lines [] ≡ []
unfolding lines_after
no_lines = refl

pub one_byte :
    (so_far : List ℕ) (byte : ℕ) (bytes : List ℕ) →
    lines_after so_far (byte ∷ bytes)
    ≡ cond (eqb byte 10) ((so_far ++ byte ∷ []) ∷ lines bytes) (lines_after (so_far ++ byte ∷ []) bytes)
unfolding lines_after
one_byte [] byte bytes = refl
one_byte (first ∷ others) byte bytes = refl

runs_on :
    (so_far front rest : List ℕ) → NoFeed front →
    lines_after so_far (front ++ rest) ≡ lines_after (so_far ++ front) rest
runs_on so_far [] rest none = rw append-nil refl
runs_on so_far (byte ∷ bytes) rest none =
    one_byte so_far byte (bytes ++ rest)
    ∙ rw (ne_eqb byte 10 (none 0 (omega arith)))
    (runs_on (so_far ++ byte ∷ []) bytes rest (λ j l. none (suc j) (omega arith)))
    ∙ ap (λ xs. lines_after xs rest) (append_assoc so_far (byte ∷ []) bytes)

pub line_by_line :
    (front rest : List ℕ) → NoFeed front → lines (front ++ 10 ∷ rest) ≡ (front ++ 10 ∷ []) ∷ lines rest
line_by_line front rest none = runs_on [] front (10 ∷ rest) none ∙ one_byte front 10 rest

pub first_line :
    (rest : List ℕ) (e : ℕ) → get_or rest e 0 ≡ 10 → e < length rest → ((j : ℕ) → j < e → get_or rest j 0 ≢ 10) →
    lines rest ≡ take (e + 1) rest ∷ lines (drop (e + 1) rest)
first_line rest e feed within none =
    let long : length (take e rest) ≡ e = length-take-le e rest (omega arith) in
    let front : NoFeed (take e rest) =
    λ j l is. none j (omega arith) (sym (get_or-take e rest j 0 (omega arith)) ∙ is) in
    ap lines (split_at rest e 0 within ∙ ap (λ byte. take e rest ++ byte ∷ drop (suc e) rest) feed)
    ∙ line_by_line (take e rest) (drop (suc e) rest) front
    ∙ rw (add-one e, take-suc rest e 0 within, feed) refl

pub last_line :
    (rest : List ℕ) → 0 < length rest → ((j : ℕ) → j < length rest → get_or rest j 0 ≢ 10) → lines rest ≡ rest ∷ []
unfolding lines_after
last_line [] some none = absurd (omega arith)
last_line (byte ∷ bytes) some none =
    ap lines (sym (append-nil (byte ∷ bytes))) ∙ runs_on [] (byte ∷ bytes) [] none

-- All of the text is its first line where no line feed is in it.
pub all_one_line :
    (rest : List ℕ) → 0 < length rest → ((j : ℕ) → j < length rest → get_or rest j 0 ≢ 10) →
    lines rest ≡ take (length rest) rest ∷ lines (drop (length rest) rest)
all_one_line rest some none =
    rw (take_all (length rest) rest (omega arith), drop_all (length rest) rest (omega arith), no_lines)
    (last_line rest some none)
