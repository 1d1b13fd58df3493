use Rattle.std.proofs.Common.{rules, ◌≡◌, [], ◌∷◌, ltb, refl, subst, ◌∙◌}
use Rattle.std.specs.List.{list_any}
use Rattle.std.proofs.lemmas.List.Folds.{list_any-append}
use Rattle.std.proofs.lemmas.Fn.{fold_over, slice_gives, fronts}
use Rattle.numbers.proofs.Tested.{some_in_places}
use Rattle.book.specs.Rates.{max_rate}
use Rattle.tables.specs.Answers.{some_rate_too_high}
use Rattle.tables.proofs.checks.some_rate_too_high.Goals as goal

pub returns : goal.returns
unfolding some_rate_too_high
returns c =
    subst (λ l. c.fold.result ≡ list_any (ltb max_rate) l) c.iter.ensures.rest
    (fold_over fronts (λ y. y.now) _ (λ ys r. r ≡ list_any (ltb max_rate) ys) _
    (λ ys a x b q j k. let more = list_any-append (ltb max_rate) ys (x.now ∷ []) in search rules)
    _ _ _ _ (slice_gives c.iter.result) refl c.fold.ensures.ran)
    ∙ some_in_places (ltb max_rate) c.args.rates.now
