-- The abstract schema of each schema value.
use Rattle.brk_model.specs.Schemas.{Schema, first_schema, second_schema, third_schema}
use Rattle.brk_trade_rows.specs.declared.schema.Schema as declared
use Rattle.brk_trade_rows.specs.declared.schema.Schema.TheVariants.{First, Second, Third}

-- The model's schema with the number of the typed schema.
abbrev pub abstract_schema : declared.Schema → Schema
abstract_schema First = first_schema
abstract_schema Second = second_schema
abstract_schema Third = third_schema
