use Rattle.std.proofs.Common.{◌≡◌, ap, ◌∙◌, rules, arith}
use borrow.Author.Tests.{tests}
use Rattle.std.specs.Option.{option_map}
use Rattle.std.proofs.lemmas.Iterator.{YieldsList-from_slice}
use Rattle.std.proofs.lemmas.Iterator.Search.{find_from_yields_List}
use Rattle.verdicts.specs.Numbers.{number_of}
use Rattle.verdicts.proofs.Rows.{given, first_found}
use Rattle.verdicts.proofs.verdict.first_verdict.Goals as goal

pub returns : goal.returns
returns c =
    let found =
    find_from_yields_List (λ row. row.0) _ _ c.find.result c.find.ensures.ran (YieldsList-from_slice c.args.rows.now cc) (λ x b q k. search (rules, tests)) in
    let named : number_of c.map_or.result ≡ given (option_map (λ row. row.now) c.find.result) = grind (arith, rules) in
    named ∙ ap given found ∙ first_found c.args.rows.now
