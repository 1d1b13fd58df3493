-- The laws of the two sinks.
use Rattle.std.proofs.Common.{ℕ, ◌+◌, ◌-◌, ◌≡◌, List, [], ◌++◌, take, drop, length}
use Rattle.std.proofs.Common.{arith, refl, sym, ap, ◌∙◌, length-append, append_assoc, append-nil}
use Rattle.std.proofs.lemmas.List.{length-drop, drop-drop}
use Rattle.text.specs.declared.Writer.{Writer}
use Rattle.text.specs.Sinks.{SinkLaws}
use Rattle.text.specs.Counts.{uncounted, Counted}
use Rattle.text.specs.Lent.{unwritten, Written}

pub counter_laws : SinkLaws uncounted Counted
counter_laws =
    record {
      nothing = λ s. omega arith;
      both = λ s t u a b p q. simp length-append (omega arith);
      less = λ s t a p. omega arith;
    }

-- What stands behind a place stands behind every later place.
further : (m n : ℕ) (xs ys : List ℕ) → drop m xs ≡ drop m ys → drop (m + n) xs ≡ drop (m + n) ys
further m n xs ys same = sym (drop-drop n m xs) ∙ ap (drop n) same ∙ drop-drop n m ys

both_written :
    (s t u : Writer) (a b : List ℕ) → Written s a t → Written t b u → Written s (a ++ b) u
both_written s t u a b p q =
    record {
      same_list = q.same_list ∙ p.same_list;
      place = simp length-append (omega (arith, p.place, q.place));
      text = q.text ∙ ap (λ front. front ++ b) p.text ∙ append_assoc (take s.written s.out.now) a b;
      rest = q.rest ∙ (rw q.place (further t.written (length b) t.out.now s.out.now p.rest));
    }

less_unwritten : (s t : Writer) (a : List ℕ) → Written s a t → unwritten t ≡ unwritten s - length a
less_unwritten s t a p =
    let left : length t.out.now - t.written ≡ length s.out.now - t.written =
    sym (length-drop t.written t.out.now) ∙ ap length p.rest ∙ length-drop t.written s.out.now in
    omega (arith, p.place)

nothing_written : (s : Writer) → Written s [] s
nothing_written s =
    record {
      same_list = refl;
      place = omega arith;
      text = sym (append-nil (take s.written s.out.now));
      rest = refl;
    }

pub writer_laws : SinkLaws unwritten Written
writer_laws =
    record {
      nothing = nothing_written;
      both = both_written;
      less = less_unwritten;
    }
