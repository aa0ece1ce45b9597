use Rattle.std.proofs.Common.{arith, ◌≡◌, ◌∙◌, ap, false, of_z, refl, rules, subst, sym, to_z, w64, ℤ}
use Rattle.std.specs.Int.RustNames.{FitsSigned}
use Rattle.std.proofs.lemmas.Int.{to_z-of_z}
use Rattle.brk_lots.specs.Against.{is_trade_closing_lots}
use Rattle.brk_trade.specs.Estimates.{deal_from_terms}
use Rattle.brk_trade.proofs.estimate.closing_values.Goals as goal

pub returns-else-is_trade_closing_lots-clause-values : goal.returns-else-is_trade_closing_lots-clause-values
returns-else-is_trade_closing_lots-clause-values g c ls trade stamp lifo given held =
    let terms = c.args.terms.now in
    let fits : FitsSigned w64 terms.held = search rules in
    let same : to_z w64 (of_z w64 terms.held) ≡ terms.held = to_z-of_z w64 terms.held fits in
    let none : is_trade_closing_lots terms.side terms.held ≡ false = sym (ap (λ (z : ℤ). is_trade_closing_lots terms.side z) same)
    ∙ sym c.is_trade_closing_lots.ensures ∙ c.if-is_trade_closing_lots.false in
    c.zero_values.ensures.values (deal_from_terms terms trade stamp lifo) ls given.1 (subst (λ (z : ℤ). is_trade_closing_lots terms.side z ≡ false) held none)

pub returns-then-is_trade_closing_lots-clause-source : goal.returns-then-is_trade_closing_lots-clause-source
returns-then-is_trade_closing_lots-clause-source g c = c.estimate_values.ensures.source

pub returns-then-is_trade_closing_lots-clause-asked : goal.returns-then-is_trade_closing_lots-clause-asked
returns-then-is_trade_closing_lots-clause-asked g c = c.estimate_values.ensures.requests_at_most_touched

pub returns-else-is_trade_closing_lots-clause-source : goal.returns-else-is_trade_closing_lots-clause-source
returns-else-is_trade_closing_lots-clause-source g c =
    record {
      leads = g.met.L.LotSource.reflexive c.args.source.now;
      requests = omega arith;
      faulted = refl;
      fault = tt;
      remaining = λ ls given. (0, given.1);
    }

pub returns-else-is_trade_closing_lots-clause-asked : goal.returns-else-is_trade_closing_lots-clause-asked
returns-else-is_trade_closing_lots-clause-asked g c ls trade stamp lifo yields fresh = omega arith

pub returns-else-is_trade_closing_lots-clause-reads_no_lot : goal.returns-else-is_trade_closing_lots-clause-reads_no_lot
returns-else-is_trade_closing_lots-clause-reads_no_lot g c closes = refl
