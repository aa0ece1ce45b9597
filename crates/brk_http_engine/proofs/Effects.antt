-- Effects of requests, from their parts.
use Rattle.std.proofs.Common.{ℕ, List}
use Rattle.brk_money.specs.Spelling.{Text}
use Rattle.brk_model_http.specs.Stream.{RequestEffect, StreamState}

-- The effect with these parts.
abbrev pub effect_of : {B : Type 0} → B → List ℕ → Text → StreamState → B → RequestEffect B
effect_of base moments reply next after = record { base = base; moments = moments; reply = reply; next = next; after = after }

-- The effect `effect` between the bases `base` and `after`.
abbrev pub effect_between : {B D : Type 0} → RequestEffect D → B → B → RequestEffect B
effect_between effect base after = record { base = base; moments = effect.moments; reply = effect.reply; next = effect.next; after = after }
