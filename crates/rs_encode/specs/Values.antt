-- The forms of the values that all crates share.
use Rattle.rs_base.specs.Ident.{is_ident}
use Rattle.rs_base.specs.Txt.{is_txt}
use Rattle.rs_base.specs.declared.lock.Mode.{Mode}
use Rattle.rs_base.specs.declared.lock.Mode.TheVariants as modes
use Rattle.rs_base.specs.declared.lock.Resource.{Resource}
use Rattle.rs_base.specs.declared.lock.Resource.TheVariants as resources
use Rattle.rs_base.specs.declared.name.NameText.{NameText}
use Rattle.rs_base.specs.declared.name.Swn.{Swn}
use Rattle.rs_base.specs.declared.reply.Denial.{Denial}
use Rattle.rs_base.specs.declared.reply.Denial.TheVariants as denials
use Rattle.rs_base.specs.declared.txn.Enlist.{Enlist}
use Rattle.rs_base.specs.declared.txn.Txn.{Txn}
use Rattle.rs_base.specs.declared.value.Kind.{Kind}
use Rattle.rs_base.specs.declared.value.Kind.TheVariants as kinds
use Rattle.rs_base.specs.declared.value.Value.{Value}
use Rattle.rs_base.specs.declared.value.Value.TheVariants as values
use Rattle.rs_codec.specs.Reader.{byte_at, count_at, int_at, text_at, u32_at, u64_at}
use Rattle.rs_codec.specs.Written.{count_bytes, int_bytes, text_bytes}
use Rattle.rs_encode.specs.Form.{Form, bare, both, option, tested, via}
use Rattle.rs_encode.specs.Variants.{enum, last, variant}
use Rattle.std.specs.Int.{to_be_bytes, w32, w64}
use Rattle.std.specs.Prelude.{Bool, List, Option, [], false, length, nat_le, nat_lt, negsuc, pos, true, ℕ, ℤ, ◌&&◌, ◌^◌, ◌∷◌, ◌⊎◌}
use mathlib.Core.Logic.{inl, inr}

-- ---- numbers and texts

-- a byte
unfoldable pub byte : Form ℕ
byte = record { fits = λ n. nat_lt n 256; bytes = λ n. n ∷ []; at = byte_at }

-- four big-endian bytes
unfoldable pub four_bytes : Form ℕ
four_bytes = record { fits = λ n. nat_lt n (2 ^ 32); bytes = to_be_bytes w32; at = u32_at }

-- eight big-endian bytes
unfoldable pub eight_bytes : Form ℕ
eight_bytes = record { fits = λ n. nat_lt n (2 ^ 64); bytes = to_be_bytes w64; at = u64_at }

-- groups of seven bits
unfoldable pub count : Form ℕ
count = record { fits = λ n. nat_lt n (2 ^ 64); bytes = count_bytes; at = count_at }

-- a count below a limit
unfoldable pub count_below : ℕ → Form ℕ
count_below limit = tested (λ n. nat_lt n limit) count

-- an integer of 64 bits: the count of its position in 0, -1, 1, -2, 2 and so on
abbrev pub is_int : ℤ → Bool
is_int (pos n) = nat_lt n (2 ^ 63)
is_int (negsuc n) = nat_lt n (2 ^ 63)

unfoldable pub int : Form ℤ
int = record { fits = is_int; bytes = int_bytes; at = int_at }

-- the count of the bytes, and the bytes
unfoldable pub text : Form (List ℕ)
text = record { fits = λ bytes. nat_lt (length bytes) (2 ^ 64); bytes = text_bytes; at = text_at }

unfoldable pub ident : Form (List ℕ)
ident = tested is_ident text

unfoldable pub txt : Form (List ℕ)
txt = tested is_txt text

-- a site: a byte from 1 to 16
abbrev pub is_site : ℕ → Bool
is_site n = nat_le 1 n && nat_le n 16

unfoldable pub site : Form ℕ
site = tested is_site byte

-- ---- truth values

abbrev pub bool_of : Unit {0} ⊎ Unit {0} → Bool
bool_of (inl x) = false
bool_of (inr x) = true

abbrev pub bool_parts : Bool → Unit {0} ⊎ Unit {0}
bool_parts false = inl tt
bool_parts true = inr tt

unfoldable pub bool : Form Bool
bool = enum bool_of bool_parts (variant 0 bare (last 1 bare))

-- ---- names, transactions, locks, values and denials

abbrev pub name_text_of : (Option (List ℕ)) × ((Option ℕ) × ((List ℕ) × (Option ℕ))) → NameText
name_text_of f = record { creator = f.0; creator_site = f.1.0; object = f.1.1.0; birth = f.1.1.1 }

abbrev pub name_text_parts : NameText → (Option (List ℕ)) × ((Option ℕ) × ((List ℕ) × (Option ℕ)))
name_text_parts x = (x.creator, (x.creator_site, (x.object, x.birth)))

-- a name as written
unfoldable pub name_text : Form NameText
name_text = via name_text_of name_text_parts (both (option ident) (both (option site) (both ident (option site))))

abbrev pub swn_of : (List ℕ) × (ℕ × ((List ℕ) × ℕ)) → Swn
swn_of f = record { creator = f.0; creator_site = f.1.0; object = f.1.1.0; birth = f.1.1.1 }

abbrev pub swn_parts : Swn → (List ℕ) × (ℕ × ((List ℕ) × ℕ))
swn_parts x = (x.creator, (x.creator_site, (x.object, x.birth)))

-- a system-wide name
unfoldable pub swn : Form Swn
swn = via swn_of swn_parts (both ident (both site (both ident site)))

abbrev pub txn_of : ℕ × (ℕ × ℕ) → Txn
txn_of f = record { site = f.0; epoch = f.1.0; number = f.1.1 }

abbrev pub txn_parts : Txn → ℕ × (ℕ × ℕ)
txn_parts x = (x.site, (x.epoch, x.number))

-- a transaction
unfoldable pub txn : Form Txn
txn = via txn_of txn_parts (both site (both four_bytes eight_bytes))

abbrev pub enlist_of : ℕ × (ℕ × ℕ) → Enlist
enlist_of f = record { site = f.0; epoch = f.1.0; number = f.1.1 }

abbrev pub enlist_parts : Enlist → ℕ × (ℕ × ℕ)
enlist_parts x = (x.site, (x.epoch, x.number))

-- an enlistment
unfoldable pub enlist : Form Enlist
enlist = via enlist_of enlist_parts (both site (both four_bytes eight_bytes))

abbrev pub mode_of : (Unit {0}) ⊎ (Unit {0}) → Mode
mode_of (inl f) = modes.Read
mode_of (inr f) = modes.Write

abbrev pub mode_parts : Mode → (Unit {0}) ⊎ (Unit {0})
mode_parts modes.Read = inl tt
mode_parts modes.Write = inr tt

-- the mode of a lock
unfoldable pub mode : Form Mode
mode = enum mode_of mode_parts
    (variant 1 bare
    (last 2 bare))

abbrev pub resource_of : Swn ⊎ (Swn ⊎ (((List ℕ) × (List ℕ)) ⊎ (List ℕ))) → Resource
resource_of (inl f) = resources.Table f
resource_of (inr (inl f)) = resources.Birth f
resource_of (inr (inr (inl f))) = resources.Program f.0 f.1
resource_of (inr (inr (inr f))) = resources.Synonyms f

abbrev pub resource_parts : Resource → Swn ⊎ (Swn ⊎ (((List ℕ) × (List ℕ)) ⊎ (List ℕ)))
resource_parts (resources.Table field) = inl field
resource_parts (resources.Birth field) = inr (inl field)
resource_parts (resources.Program first second) = inr (inr (inl (first, second)))
resource_parts (resources.Synonyms field) = inr (inr (inr field))

-- what is locked
unfoldable pub resource : Form Resource
resource = enum resource_of resource_parts
    (variant 1 swn
    (variant 2 swn
    (variant 3 (both ident ident)
    (last 4 ident))))

abbrev pub kind_of : (Unit {0}) ⊎ (Unit {0}) → Kind
kind_of (inl f) = kinds.Int
kind_of (inr f) = kinds.Text

abbrev pub kind_parts : Kind → (Unit {0}) ⊎ (Unit {0})
kind_parts kinds.Int = inl tt
kind_parts kinds.Text = inr tt

-- the type of a column
unfoldable pub kind : Form Kind
kind = enum kind_of kind_parts
    (variant 1 bare
    (last 2 bare))

abbrev pub value_of : ℤ ⊎ (List ℕ) → Value
value_of (inl f) = values.Int f
value_of (inr f) = values.Text f

abbrev pub value_parts : Value → ℤ ⊎ (List ℕ)
value_parts (values.Int field) = inl field
value_parts (values.Text field) = inr field

-- a value
unfoldable pub value : Form Value
value = enum value_of value_parts
    (variant 1 int
    (last 2 txt))

abbrev pub denial_of :
    (Unit {0}) ⊎ ((Unit {0}) ⊎ ((Unit {0}) ⊎ ((Unit {0}) ⊎ ((Unit {0}) ⊎ ((Unit {0}) ⊎ ((Unit {0}) ⊎ ((Unit {0}) ⊎ ((Unit
    {0}) ⊎ ((Unit {0}) ⊎ ((Unit {0}) ⊎ ((Unit {0}) ⊎ ((Unit {0}) ⊎ ((Unit {0}) ⊎ ((Unit {0}) ⊎ (Unit
    {0}))))))))))))))) → Denial
denial_of (inl f) = denials.NoTable
denial_of (inr (inl f)) = denials.NoColumn
denial_of (inr (inr (inl f))) = denials.TwoColumns
denial_of (inr (inr (inr (inl f)))) = denials.WrongType
denial_of (inr (inr (inr (inr (inl f))))) = denials.TableExists
denial_of (inr (inr (inr (inr (inr (inl f)))))) = denials.NoIndex
denial_of (inr (inr (inr (inr (inr (inr (inl f))))))) = denials.IndexExists
denial_of (inr (inr (inr (inr (inr (inr (inr (inl f)))))))) = denials.NoProgram
denial_of (inr (inr (inr (inr (inr (inr (inr (inr (inl f))))))))) = denials.ProgramExists
denial_of (inr (inr (inr (inr (inr (inr (inr (inr (inr (inl f)))))))))) = denials.WrongParams
denial_of (inr (inr (inr (inr (inr (inr (inr (inr (inr (inr (inl f))))))))))) = denials.SynonymExists
denial_of (inr (inr (inr (inr (inr (inr (inr (inr (inr (inr (inr (inl f)))))))))))) = denials.NoSynonym
denial_of (inr (inr (inr (inr (inr (inr (inr (inr (inr (inr (inr (inr (inl f))))))))))))) = denials.NoSite
denial_of (inr (inr (inr (inr (inr (inr (inr (inr (inr (inr (inr (inr (inr (inl f)))))))))))))) = denials.Overflow
denial_of (inr (inr (inr (inr (inr (inr (inr (inr (inr (inr (inr (inr (inr (inr (inl f))))))))))))))) = denials.TooManyRows
denial_of (inr (inr (inr (inr (inr (inr (inr (inr (inr (inr (inr (inr (inr (inr (inr f))))))))))))))) = denials.TableFull

abbrev pub denial_parts : Denial →
    (Unit {0}) ⊎ ((Unit {0}) ⊎ ((Unit {0}) ⊎ ((Unit {0}) ⊎ ((Unit {0}) ⊎ ((Unit {0}) ⊎ ((Unit {0}) ⊎ ((Unit {0}) ⊎ ((Unit
    {0}) ⊎ ((Unit {0}) ⊎ ((Unit {0}) ⊎ ((Unit {0}) ⊎ ((Unit {0}) ⊎ ((Unit {0}) ⊎ ((Unit {0}) ⊎ (Unit
    {0})))))))))))))))
denial_parts denials.NoTable = inl tt
denial_parts denials.NoColumn = inr (inl tt)
denial_parts denials.TwoColumns = inr (inr (inl tt))
denial_parts denials.WrongType = inr (inr (inr (inl tt)))
denial_parts denials.TableExists = inr (inr (inr (inr (inl tt))))
denial_parts denials.NoIndex = inr (inr (inr (inr (inr (inl tt)))))
denial_parts denials.IndexExists = inr (inr (inr (inr (inr (inr (inl tt))))))
denial_parts denials.NoProgram = inr (inr (inr (inr (inr (inr (inr (inl tt)))))))
denial_parts denials.ProgramExists = inr (inr (inr (inr (inr (inr (inr (inr (inl tt))))))))
denial_parts denials.WrongParams = inr (inr (inr (inr (inr (inr (inr (inr (inr (inl tt)))))))))
denial_parts denials.SynonymExists = inr (inr (inr (inr (inr (inr (inr (inr (inr (inr (inl tt))))))))))
denial_parts denials.NoSynonym = inr (inr (inr (inr (inr (inr (inr (inr (inr (inr (inr (inl tt)))))))))))
denial_parts denials.NoSite = inr (inr (inr (inr (inr (inr (inr (inr (inr (inr (inr (inr (inl tt))))))))))))
denial_parts denials.Overflow = inr (inr (inr (inr (inr (inr (inr (inr (inr (inr (inr (inr (inr (inl tt)))))))))))))
denial_parts denials.TooManyRows = inr (inr (inr (inr (inr (inr (inr (inr (inr (inr (inr (inr (inr (inr (inl tt))))))))))))))
denial_parts denials.TableFull = inr (inr (inr (inr (inr (inr (inr (inr (inr (inr (inr (inr (inr (inr (inr tt))))))))))))))

-- the cause of a denial
unfoldable pub denial : Form Denial
denial = enum denial_of denial_parts
    (variant 1 bare
    (variant 2 bare
    (variant 3 bare
    (variant 4 bare
    (variant 5 bare
    (variant 6 bare
    (variant 7 bare
    (variant 8 bare
    (variant 9 bare
    (variant 10 bare
    (variant 11 bare
    (variant 12 bare
    (variant 13 bare
    (variant 14 bare
    (variant 15 bare
    (last 16 bare))))))))))))))))
