-- After i turns the first i places hold what the closure makes.
use Rattle.std.proofs.Common.{ℕ, ◌<◌, ◌≡◌, take}
use Rattle.book.proofs.Filled.{Filled}
use Rattle.book.proofs.filling.fill_first.Given as goal

abbrev pub invariant-loop-i : goal.invariant-loop-i
invariant-loop-i g l =
    (f : ℕ → g.row.T.Denot) → ((i : ℕ) (x : g.row.T.Denot) → i < l.count → goal.F-post g l.make i x → x ≡ f i)
    → Filled f (take l.count l.fn.list) l.count l.i l.place-items
