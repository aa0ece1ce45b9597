use Rattle.std.proofs.Common.{length}
use Rattle.std.specs.Prelude.{string_bytes}
use denote.Shadow.{shadow}
use denote.Text.{Utf8}
use Rattle.brk_trade_plans.proofs.Replacing.{IsReplacedSoFar}
use Rattle.brk_trade_plans.proofs.wording.replace_each.Given as goal

-- the rest is a text, and with what is written makes up the whole
abbrev pub invariant-loop-before : goal.invariant-loop-before
invariant-loop-before l = shadow (Utf8 l.rest) × IsReplacedSoFar l.part l.new l.text (string_bytes l.written) l.rest

abbrev pub decreases-loop-before : goal.decreases-loop-before
decreases-loop-before l = length l.rest
