-- The forms of bytes, numbers, integers and texts are forms: they are read as they are encoded, and encoded once.
use Rattle.std.proofs.Common.{◌≡◌, ℕ, ◌^◌, ℤ, pos, negsuc, Bool, ltb, List, [], ◌∷◌, ◌++◌, length, Option, Some, refl, sym, ap, ◌∙◌, arith}
use Rattle.std.specs.Prelude.{IsTrue}
use Rattle.std.specs.Int.{w32, w64, to_be_bytes}
use Rattle.std.proofs.lemmas.Bool.{lt-ltb, ltb-true}
use Rattle.rs_base.specs.Ident.{is_ident}
use Rattle.rs_base.specs.Txt.{is_txt}
use Rattle.rs_codec.specs.Encoding.{IsByte, IsU32, IsU64, IsCount, IsInt, IsText}
use Rattle.rs_codec.specs.Laws.{IsReadBy, IsEncodedOnce}
use Rattle.rs_codec.specs.Reader.{byte_at, u32_at, u64_at, count_at, int_at, text_at}
use Rattle.rs_codec.specs.Written.{count_bytes, int_bytes, text_bytes}
use Rattle.rs_codec.proofs.Readers.{read_again, byte_read, u32_read, u64_read, count_read, int_read, text_read}
use Rattle.rs_codec.proofs.Writers.{once_count, once_int, once_text, written_count, written_int, written_text}
use Rattle.rs_encode.specs.Form.{IsForm}
use Rattle.rs_encode.specs.Values.{byte, four_bytes, eight_bytes, count, count_below, is_int, int, text, ident, txt}
use Rattle.rs_encode.proofs.Forms.{tested_is}

module _ {X : Type 0} (IsX : List ℕ → X → Type 0) (x_at : List ℕ → Option (X × List ℕ)) (x_bytes : X → List ℕ) (test : X → Bool)
    (read : IsReadBy IsX x_at) (once : IsEncodedOnce IsX) (written : (x : X) → IsTrue (test x) → IsX (x_bytes x) x)
    (within : (bytes : List ℕ) (x : X) → IsX bytes x → IsTrue (test x)) where
  field_only : (bytes rest : List ℕ) (x : X) → x_at bytes ≡ Some (x, rest) → IsTrue (test x) × (bytes ≡ x_bytes x ++ rest)
  field_only bytes rest x e =
      let t = (read bytes rest x).1 e in
      let fits = within t.encoding x t.encoded in
      (fits, t.parts ∙ ap (λ (bs : List ℕ). bs ++ rest) (once t.encoding (x_bytes x) x t.encoded (written x fits)))

  field_is : IsForm (record { fits = test; bytes = x_bytes; at = x_at })
  field_is = record { again = λ x rest fits. read_again IsX x_at read (x_bytes x) rest x (written x fits); only = field_only }

-- ---- bytes and numbers

pub byte_is : IsForm byte
unfolding byte
byte_is = field_is IsByte byte_at (λ n. n ∷ []) (λ n. ltb n 256) byte_read (λ a b x e f. e.1 ∙ sym f.1)
    (λ n fits. (ltb-true n 256 fits, refl)) (λ bytes n is. lt-ltb n 256 is.0)

pub four_bytes_is : IsForm four_bytes
unfolding four_bytes
four_bytes_is = field_is IsU32 u32_at (to_be_bytes w32) (λ n. ltb n (2 ^ 32)) u32_read (λ a b x e f. e.1 ∙ sym f.1)
    (λ n fits. (ltb-true n (2 ^ 32) fits, refl)) (λ bytes n is. lt-ltb n (2 ^ 32) is.0)

pub eight_bytes_is : IsForm eight_bytes
unfolding eight_bytes
eight_bytes_is = field_is IsU64 u64_at (to_be_bytes w64) (λ n. ltb n (2 ^ 64)) u64_read (λ a b x e f. e.1 ∙ sym f.1)
    (λ n fits. (ltb-true n (2 ^ 64) fits, refl)) (λ bytes n is. lt-ltb n (2 ^ 64) is.0)

pub count_is : IsForm count
unfolding count
count_is = field_is IsCount count_at count_bytes (λ n. ltb n (2 ^ 64)) count_read once_count
    (λ n fits. written_count n (ltb-true n (2 ^ 64) fits)) (λ bytes n is. lt-ltb n (2 ^ 64) is.below)

pub count_below_is : (limit : ℕ) → IsForm (count_below limit)
unfolding count_below
count_below_is limit = tested_is (λ n. ltb n limit) count_is

int_written : (z : ℤ) → IsTrue (is_int z) → IsInt (int_bytes z) z
int_written (pos n) fits = written_int (pos n) (let b = ltb-true n (2 ^ 63) fits in omega arith)
int_written (negsuc n) fits = written_int (negsuc n) (let b = ltb-true n (2 ^ 63) fits in omega arith)

int_within : (bytes : List ℕ) (z : ℤ) → IsInt bytes z → IsTrue (is_int z)
int_within bytes (pos n) is = lt-ltb n (2 ^ 63) (let b = is.below in omega arith)
int_within bytes (negsuc n) is = lt-ltb n (2 ^ 63) (let b = is.below in omega arith)

pub int_is : IsForm int
unfolding int
int_is = field_is IsInt int_at int_bytes is_int int_read once_int int_written int_within

-- ---- texts

text_within : (bytes x : List ℕ) → IsText bytes x → IsTrue (ltb (length x) (2 ^ 64))
text_within bytes x is = lt-ltb (length x) (2 ^ 64) is.counted.below

pub text_is : IsForm text
unfolding text
text_is = field_is IsText text_at text_bytes (λ x. ltb (length x) (2 ^ 64)) text_read once_text
    (λ x fits. written_text x (ltb-true (length x) (2 ^ 64) fits)) text_within

pub ident_is : IsForm ident
unfolding ident
ident_is = tested_is is_ident text_is

pub txt_is : IsForm txt
unfolding txt
txt_is = tested_is is_txt text_is

-- ---- what the forms of bytes and counts say

pub byte_only : (bytes rest : List ℕ) (n : ℕ) → byte_at bytes ≡ Some (n, rest) → IsTrue (ltb n 256) × (bytes ≡ n ∷ rest)
unfolding byte
byte_only bytes rest n e = byte_is.only bytes rest n e

pub byte_again : (n : ℕ) (rest : List ℕ) → IsTrue (ltb n 256) → byte_at (n ∷ rest) ≡ Some (n, rest)
unfolding byte
byte_again n rest fits = byte_is.again n rest fits

pub count_only : (bytes rest : List ℕ) (n : ℕ) → count_at bytes ≡ Some (n, rest) → IsTrue (ltb n (2 ^ 64)) × (bytes ≡ count_bytes n ++ rest)
unfolding count
count_only bytes rest n e = count_is.only bytes rest n e

pub count_again : (n : ℕ) (rest : List ℕ) → IsTrue (ltb n (2 ^ 64)) → count_at (count_bytes n ++ rest) ≡ Some (n, rest)
unfolding count
count_again n rest fits = count_is.again n rest fits
