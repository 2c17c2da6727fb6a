-- The file of a log: the eight bytes RSTARLG1, a gate byte, then batches. A batch is a length of eight bytes, the highest
-- first, and at least 1; as many bytes, which are items; and a gate byte. An item is the count of its length and its
-- bytes. The gate before a batch is 1 if the batch is in. The log ends at a gate that isn't 1, or that is the last byte;
-- what follows is no part of it. A file of at most 9 bytes is a new log.
use Rattle.std.specs.Prelude.{ℕ, zero, suc, ◌+◌, ◌-◌, nat_le, nat_lt, ◌==◌, if◌then◌else◌, List, [], ◌∷◌, ◌++◌, length, take, drop, Option, Some, None}
use Rattle.std.specs.Int.{w64, to_be_bytes}
use Rattle.rs_base.specs.Reading.{◌>>=◌}
use Rattle.rs_codec.specs.Reader.{u64_at, text_at}
use Rattle.rs_codec.specs.Written.{text_bytes}

abbrev pub Item : Type 0
Item = List ℕ

-- ---- what is written

-- RSTARLG1
abbrev pub header : List ℕ
header = 82 ∷ 83 ∷ 84 ∷ 65 ∷ 82 ∷ 76 ∷ 71 ∷ 49 ∷ []

abbrev pub items_bytes : List Item → List ℕ
items_bytes [] = []
items_bytes (item ∷ items) = text_bytes item ++ items_bytes items

-- the length of the items, and the items
abbrev pub batch_bytes : List Item → List ℕ
batch_bytes items = to_be_bytes w64 (length (items_bytes items)) ++ items_bytes items

-- ---- what is read

-- the items that these bytes are, at most `most`
abbrev pub items_in : ℕ → List ℕ → Option (List Item)
items_in most [] = Some []
items_in zero (byte ∷ bytes) = None
items_in (suc most) (byte ∷ bytes) = text_at (byte ∷ bytes) >>= λ item. items_in most item.1 >>= λ items. Some (item.0 ∷ items)

unfoldable pub items_of : List ℕ → Option (List Item)
items_of bytes = items_in (length bytes) bytes

-- the items of these bytes, if they are items, with what follows them
abbrev pub with_rest : List ℕ → Option (List Item) → Option (List Item × List ℕ)
with_rest rest items = items >>= λ items. Some (items, rest)

-- the items of the batch that begins these bytes, with what follows it, which begins with a gate
unfoldable pub batch_at : List ℕ → Option (List Item × List ℕ)
batch_at bytes = u64_at bytes >>= λ size. if size.0 == 0 then None else (if nat_lt size.0 (length size.1) then with_rest (drop size.0 size.1) (items_of (take size.0 size.1)) else None)

-- what an opening finds
pub data Found : Type 0 where
  NotALog : (at : ℕ) → Found  -- the offset of the first byte that no log has
  Log : (items : List Item) → (gate : ℕ) → Found  -- the items, and the offset of the last gate

-- these items first
abbrev pub with_items : List Item → Found → Found
with_items items (NotALog at) = NotALog at
with_items items (Log more gate) = Log (items ++ more) gate

-- what follows a batch, or no log if there is none at the gate
abbrev pub after_batch : ℕ → (List Item × List ℕ → Found) → Option (List Item × List ℕ) → Found
after_batch at next None = NotALog at
after_batch at next (Some batch) = with_items batch.0 (next batch)

-- the batches from the gate at this offset on, at most `most`
abbrev pub scan : ℕ → ℕ → List ℕ → Found
scan most at [] = Log [] at
scan zero at (gate ∷ rest) = Log [] at
scan (suc most) at (gate ∷ []) = Log [] at
scan (suc most) at (gate ∷ byte ∷ rest) = if gate == 1
    then after_batch at (λ batch. scan most (at + 1 + (length (byte ∷ rest) - length batch.1)) batch.1) (batch_at (byte ∷ rest))
    else Log [] at

-- the offset of the first byte that differs from the header, if one does
abbrev pub first_wrong : ℕ → List ℕ → List ℕ → Option ℕ
first_wrong at [] bytes = None
first_wrong at (want ∷ wanted) [] = Some at
first_wrong at (want ∷ wanted) (byte ∷ bytes) = if byte == want then first_wrong (at + 1) wanted bytes else Some at

abbrev pub scan_after : List ℕ → Option ℕ → Found
scan_after bytes None = scan (length bytes) 8 (drop 8 bytes)
scan_after bytes (Some at) = NotALog at

-- what an opening of a file finds
unfoldable pub found : List ℕ → Found
found bytes = if nat_le (length bytes) 9 then Log [] 8 else scan_after bytes (first_wrong 0 header bytes)
