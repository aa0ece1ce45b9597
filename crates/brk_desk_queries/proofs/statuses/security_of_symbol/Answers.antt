use Rattle.std.proofs.Common.{◌≡◌, Some, rules, sym, ap, ◌∙◌, tests}
use Rattle.std.specs.Prelude.{bytes_eq, option_map}
use Rattle.std.proofs.lemmas.Iterator.{YieldsList-from_slice}
use Rattle.std.proofs.lemmas.Iterator.Search.{find_from_yields_List}
use Rattle.brk_desk_queries.proofs.statuses.security_of_symbol.Goals as goal

pub returns : goal.returns
returns c =
    let statuses = c.args.statuses.now in
    let found = find_from_yields_List (λ s. bytes_eq s.trade.symbol c.args.symbol.now) _ _ c.find.result c.find.ensures.ran (YieldsList-from_slice statuses cc) (λ x b q k. search (rules, tests)) in
    let one = c.in_ok-security.security in
    let other = c.in-Some.status.now.security in
    let same : (one.symbol ≡ other.symbol) × ((one.name ≡ other.name) × ((one.exchange ≡ other.exchange) × (one.sector ≡ other.sector))) = c.in_ok-security.ensures.cases in
    let rest : (one.name ≡ other.name) × ((one.exchange ≡ other.exchange) × (one.sector ≡ other.sector)) = same.1 in
    let last : (one.exchange ≡ other.exchange) × (one.sector ≡ other.sector) = rest.1 in
    ap Some (λ i. record { symbol = same.0 i; name = rest.0 i; exchange = last.0 i; sector = last.1 i })
    ∙ ap (option_map (λ s. s.security)) (sym (ap (option_map (λ s. s.now)) c.in-Some.is) ∙ found)

pub returns-in_default : goal.returns-in_default
returns-in_default c =
    let statuses = c.args.statuses.now in
    let found = find_from_yields_List (λ s. bytes_eq s.trade.symbol c.args.symbol.now) _ _ c.find.result c.find.ensures.ran (YieldsList-from_slice statuses cc) (λ x b q k. search (rules, tests)) in
    ap (option_map (λ s. s.security)) (sym (ap (option_map (λ s. s.now)) c.in_default.is) ∙ found)
