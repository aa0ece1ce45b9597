-- A SELECT has no RETURNING clause, over any schema.
use Rattle.std.proofs.Common.{◌≡◌, ◌⊎◌, ℕ, List, [], Bool, true, false, None, Ok, Err, refl, sym, ap, ◌∙◌, inl, inr}
use Rattle.std.specs.Prelude.{if◌then◌else◌}
use Rattle.sqlite_schema.specs.declared.schema.Schema.{Schema}
use Rattle.sqlite_schema.specs.declared.command.Command.{Command}
use Rattle.sqlite_ast.specs.declared.Statement.TheVariants as written
use Rattle.sqlite_ast.specs.declared.Select as ast
use Rattle.sqlite_syntax.specs.declared.statement.Parsed.{Parsed}
use Rattle.sqlite_resolve.specs.Lowering.{Checked}
use Rattle.sqlite_resolve.specs.Compile.{compiled, first, planned, timed, meaning, command, returning, read}
use Rattle.sqlite_resolve.specs.declared.compiled.Compiled.{Compiled}
use Rattle.sqlite_resolve.specs.declared.error.CompileError.{CompileError}
use Rattle.sqlite.specs.Listing.{understood, reads_listing, if_select, listing_schema, is_select}
use Rattle.brk_tables_sql.proofs.Effects.{same_value}
use Rattle.brk_tables_sql.proofs.Meant.{meant}

module _ (text : List ℕ) (p : Parsed) (s : ast.Select) (is : first text ≡ Ok p) (untimed : p.formats ≡ []) (statement : p.statement ≡ written.Select s) where
  selects : (schema : Schema) → ((c : Command) × (compiled schema text ≡ Ok (meant p [] c))) ⊎ ((e : CompileError) × (compiled schema text ≡ Err e))
  unfolding compiled planned timed meaning returning command
  selects schema = go (read schema s) refl
    where
      go : (r : Checked Command) → read schema s ≡ r → ((c : Command) × (compiled schema text ≡ Ok (meant p [] c))) ⊎ ((e : CompileError) × (compiled schema text ≡ Err e))
      go (Ok c) e = inl (c, rw (is, statement, untimed, e))
      go (Err f) e = inr (f, rw (is, statement, untimed, e))

  pub no_returning : (schema : Schema) (c : Compiled) → understood schema text ≡ Ok c → c.returning ≡ None
  unfolding understood
  no_returning schema c h = go (reads_listing schema text) h
    where
      plain : (k : Schema) → compiled k text ≡ Ok c → c.returning ≡ None
      plain k e = elim (selects k) [ inl m ↦ ap (λ (c : Compiled). c.returning) (sym (same_value (sym m.1 ∙ e))) | inr m ↦ absurd (let f = sym m.1 ∙ e in cc) ]

      listed : (r : Checked Compiled) → compiled listing_schema text ≡ r → if_select r ≡ Ok c → c.returning ≡ None
      listed (Ok d) e k = chosen (is_select d.command) k
        where
          chosen : (b : Bool) → (if b then Ok d else Err Rattle.sqlite_resolve.specs.declared.error.CompileError.TheVariants.NoSuchTable) ≡ Ok c → c.returning ≡ None
          chosen true k = plain listing_schema (e ∙ k)
          chosen false k = absurd (let f = k in cc)
      listed (Err f) e k = absurd (let g = k in cc)

      go : (b : Bool) → (if b then if_select (compiled listing_schema text) else compiled schema text) ≡ Ok c → c.returning ≡ None
      go true k = listed (compiled listing_schema text) refl k
      go false k = plain schema k
