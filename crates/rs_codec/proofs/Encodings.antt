-- Counts, integers and texts: each has one encoding, which consists of bytes.
use Rattle.std.proofs.Common.{◌≡◌, ℕ, ◌+◌, ◌^◌, ◌<◌, ◌≤◌, ℤ, pos, negsuc, List, ◌++◌, length, take, drop, refl, sym, ap, subst, ◌∙◌, arith, append_assoc, length-append}
use Rattle.std.specs.Prelude.{FitsSigned}
use Rattle.std.specs.Int.{w64}
use Rattle.std.proofs.lemmas.List.{append_cancel_left, take_at, take-append-drop, length-take}
use Rattle.std.proofs.lemmas.List.Elements.{All-append}
use Rattle.rs_base.specs.Sizes.{count_size}
use Rattle.rs_codec.specs.Encoding.{IsCount, count_of, IsInt, IsText, Takes, NoneBegins}
use Rattle.rs_codec.specs.Laws.{HasOneEncoding, AreBytes}
use Rattle.rs_codec.proofs.Groups.{one_groups, each_groups, bytes_of_groups, length_of_groups}

pub one_count : HasOneEncoding IsCount
one_count a b r s m n p q e = one_groups a b r s m n p.groups q.groups e

pub each_count : (n : ℕ) → n < 2 ^ 64 → (bytes : List ℕ) × IsCount bytes n
each_count n h = let g = each_groups n in (g.0, record { groups = g.1; below = h })

pub bytes_of_count : (bytes : List ℕ) (n : ℕ) → IsCount bytes n → AreBytes bytes
bytes_of_count bytes n p = bytes_of_groups bytes n p.groups

pub length_of_count : (bytes : List ℕ) (n : ℕ) → IsCount bytes n → length bytes ≡ count_size n
unfolding count_size
length_of_count bytes n p = length_of_groups bytes 9 n p.groups (omega (arith, p.below))

-- ---- integers

pub same_count : (x y : ℤ) → count_of x ≡ count_of y → x ≡ y
same_count (pos m) (pos n) e = ap pos (omega (arith, e))
same_count (pos m) (negsuc n) e = absurd (omega (arith, e))
same_count (negsuc m) (pos n) e = absurd (omega (arith, e))
same_count (negsuc m) (negsuc n) e = ap negsuc (omega (arith, e))

pub one_int : HasOneEncoding IsInt
one_int a b r s x y p q e =
    let same = one_count a b r s (count_of x) (count_of y) p q e in
    (same.0, same_count x y same.1)

pub count_below : (z : ℤ) → FitsSigned w64 z → count_of z < 2 ^ 64
count_below (pos n) h = omega (arith, h.sfits)
count_below (negsuc n) h = omega (arith, h.sfits)

pub each_int : (z : ℤ) → FitsSigned w64 z → (bytes : List ℕ) × IsInt bytes z
each_int z h = each_count (count_of z) (count_below z h)

-- ---- texts

-- prefixes of one length of one list
same_prefixes : (x y r s : List ℕ) → length x ≡ length y → x ++ r ≡ y ++ s → x ≡ y
same_prefixes x y r s len e = sym (take_at x r (length y) len) ∙ ap (take (length y)) e ∙ take_at y s (length y) refl

-- the count, then the text
pub suffix_count : (a r text : List ℕ) (p : IsText a text) → a ++ r ≡ p.count ++ (text ++ r)
suffix_count a r text p = ap (λ (xs : List ℕ). xs ++ r) p.parts ∙ append_assoc p.count text r

pub one_text : HasOneEncoding IsText
one_text a b r s x y p q e =
    let both : p.count ++ (x ++ r) ≡ q.count ++ (y ++ s) = sym (suffix_count a r x p) ∙ e ∙ suffix_count b s y q in
    let counts = one_count p.count q.count (x ++ r) (y ++ s) (length x) (length y) p.counted q.counted both in
    let texts : x ++ r ≡ y ++ s = append_cancel_left q.count (x ++ r) (y ++ s) (ap (λ (xs : List ℕ). xs ++ (x ++ r)) (sym counts.0) ∙ both) in
    let same = same_prefixes x y r s counts.1 texts in
    (p.parts ∙ ap (λ (xs : List ℕ). xs ++ x) counts.0 ∙ ap (λ (xs : List ℕ). q.count ++ xs) same ∙ sym q.parts, same)

pub each_text : (text : List ℕ) → length text < 2 ^ 64 → (bytes : List ℕ) × IsText bytes text
each_text text h =
    let c = each_count (length text) h in
    (c.0 ++ text, record { count = c.0; counted = c.1; parts = refl })

pub bytes_of_text : (bytes text : List ℕ) → IsText bytes text → AreBytes text → AreBytes bytes
bytes_of_text bytes text p are = subst AreBytes (sym p.parts) (All-append (λ b. b < 256) p.count text (bytes_of_count p.count (length text) p.counted) are)

-- without a count there is no text
pub none_no_count : (bytes : List ℕ) → NoneBegins IsCount bytes → NoneBegins IsText bytes
none_no_count bytes none text encoding rest p e = none (length text) p.count (text ++ rest) p.counted (e ∙ suffix_count encoding rest text p)

pub length_of_text : (bytes text : List ℕ) → IsText bytes text → length bytes ≡ count_size (length text) + length text
length_of_text bytes text p = ap length p.parts ∙ length-append p.count text ∙ ap (λ (n : ℕ). n + length text) (length_of_count p.count (length text) p.counted)

-- a count with fewer bytes after it than it says is no text
pub none_short : (bytes suffix : List ℕ) (n : ℕ) → Takes IsCount bytes suffix n → length suffix < n → NoneBegins IsText bytes
none_short bytes suffix n t short text encoding rest p e =
    let both : t.encoding ++ suffix ≡ p.count ++ (text ++ rest) = sym t.parts ∙ e ∙ suffix_count encoding rest text p in
    let same = one_count t.encoding p.count suffix (text ++ rest) n (length text) t.encoded p.counted both in
    let texts : suffix ≡ text ++ rest = append_cancel_left p.count suffix (text ++ rest) (ap (λ (xs : List ℕ). xs ++ suffix) (sym same.0) ∙ both) in
    omega (arith, same.1, ap length texts, length-append text rest)

-- a count with as many bytes after it as it says is a text
pub takes_text : (bytes suffix text new : List ℕ) (n : ℕ) → Takes IsCount bytes suffix n → n ≤ length suffix → text ≡ take n suffix → new ≡ drop n suffix → Takes IsText bytes new text
takes_text bytes suffix text new n t within prefix back =
    let len : length text ≡ n = omega (arith, ap length prefix, length-take n suffix) in
    record {
      encoding = t.encoding ++ text;
      encoded = record { count = t.encoding; counted = subst (λ (k : ℕ). IsCount t.encoding k) (sym len) t.encoded; parts = refl };
      parts = t.parts ∙ ap (λ (xs : List ℕ). t.encoding ++ xs) (sym (take-append-drop n suffix) ∙ ap (λ (xs : List ℕ). xs ++ drop n suffix) (sym prefix) ∙ ap (λ (xs : List ℕ). text ++ xs) (sym back)) ∙ sym (append_assoc t.encoding text new);
    }
