use Rattle.std.proofs.Common.{rules, vec_items}
use Rattle.records.proofs.Writing.{viewed_all}
use Rattle.records.proofs.answering.answer_records.Goals as goal

pub returns : goal.returns
returns g c =
    viewed_all _ _ _ vec_items g.R.Read.remaining _ _ (λ s found h t called. search rules)
    (λ s found h t called. search rules)
    (λ case text answered. (answered.0, search rules, answered.2)) _ _ _ _ c.answer_all.ensures
