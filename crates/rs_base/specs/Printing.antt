-- The printed text of values and names.
use Rattle.std.specs.Prelude.{ℕ, List, [], ◌∷◌, ◌++◌, flat_map, decimal, codes, ◌==◌, if◌then◌else◌}
use Rattle.std.specs.Fmt.{signed_decimal}
use Rattle.rs_base.specs.declared.value.Value.{Value}
use Rattle.rs_base.specs.declared.value.Value.TheVariants as values
use Rattle.rs_base.specs.declared.name.Swn.{Swn}

-- a quote is doubled
abbrev pub quoted_byte : ℕ → List ℕ
quoted_byte b = if b == 39 then 39 ∷ 39 ∷ [] else b ∷ []

abbrev pub printed_text : List ℕ → List ℕ
printed_text text = codes "'" ++ flat_map quoted_byte text ++ codes "'"

-- an integer in decimal, a text in quotes
abbrev pub printed_value : Value → List ℕ
printed_value (values.Int n) = signed_decimal n
printed_value (values.Text text) = printed_text text

-- creator@site.object@birth site
abbrev pub printed_swn : Swn → List ℕ
printed_swn name = name.creator ++ codes "@" ++ decimal name.creator_site ++ codes "." ++ name.object ++ codes "@" ++ decimal name.birth
