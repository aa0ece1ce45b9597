-- The member names of the objects in replies.
use Rattle.std.specs.Prelude.{codes}
use Rattle.brk_money.specs.Spelling.{Text}
use Rattle.brk_http_engine.specs.declared.bodies.MemberName.{MemberName}
use Rattle.brk_http_engine.specs.declared.bodies.MemberName.TheVariants.{Ok, Again, No, View, Error}

-- The bytes of the name of the one member of the JSON object that is the body of a reply.
abbrev pub member_name_text : MemberName → Text
member_name_text Ok = codes "ok"
member_name_text Again = codes "again"
member_name_text No = codes "no"
member_name_text View = codes "view"
member_name_text Error = codes "error"
