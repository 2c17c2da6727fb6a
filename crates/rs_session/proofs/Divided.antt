-- The parts of a text, and their messages.
use Rattle.std.proofs.Common.{◌≡◌, ℕ, zero, suc, ◌+◌, ◌*◌, ◌<◌, ◌≤◌, true, ◌&&◌, nat_lt, List, ◌++◌, length, take, drop, sym, ap, subst, ◌∙◌, arith, ◌↔◌}
use Rattle.std.proofs.lemmas.Bool.{ltb-true, ltb_from_iff, lt-ltb, and_parts}
use Rattle.std.proofs.lemmas.Grind.{div_ceil_times}
use Rattle.std.proofs.lemmas.List.{drop-drop, take_all, length-take}
use Rattle.std.proofs.lemmas.Option.{cond_some}
use Rattle.std.proofs.Math.Seq.{take-add}
use Rattle.std.specs.Prelude.{flat_map}
use Rattle.std.specs.List.{range_with_len}
use Rattle.rs_base.specs.declared.txn.Origin.{Origin}
use Rattle.rs_base.specs.declared.reply.Reply.{Reply}
use Rattle.rs_print.specs.Replies.{printed_reply}
use Rattle.rs_msg.proofs.Sizes.{reply_fits}
use Rattle.rs_msg.specs.declared.message.Message.{Message}
use Rattle.rs_msg.specs.Limits.{IsOriginWithin, IsWithin}
use Rattle.rs_msg.specs.Written.{message_bytes}
use Rattle.rs_session.specs.Parts.{has_part, part_size}
use Rattle.rs_session.specs.PartLaws.{HasEachPart, PartFits, PartIsWithin, PartsAreText}
use Rattle.rs_session.specs.Parts.{parts_of, parts_limit, part_bytes, part_message, reply_text}

-- ---- the parts, one after the other

module _ (size : ℕ) (text : List ℕ) where
  abbrev piece : ℕ → List ℕ
  piece part = take size (drop (part * size) text)

  count : (n : ℕ) → size + n * size ≡ suc n * size
  count n = omega arith

  suffix : (at : ℕ) → drop ((at + 1) * size) text ≡ drop size (drop (at * size) text)
  suffix at =
      let more : (at + 1) * size ≡ at * size + size = omega arith in
      ap (λ (n : ℕ). drop n text) more ∙ sym (drop-drop size (at * size) text)

  none : 0 ≡ 0 * size
  none = omega arith

  -- consecutive pieces are a prefix of what follows the pieces before
  in_row : (at n : ℕ) → flat_map piece (range_with_len at n) ≡ take (n * size) (drop (at * size) text)
  in_row at zero = ap (λ (m : ℕ). take m (drop (at * size) text)) none
  in_row at (suc n) =
      ap (λ (bytes : List ℕ). piece at ++ bytes) (in_row (at + 1) n ∙ ap (take (n * size)) (suffix at))
      ∙ sym (take-add size (n * size) (drop (at * size) text))
      ∙ ap (λ (m : ℕ). take m (drop (at * size) text)) (count n)

  whole : (n : ℕ) → length text ≤ n * size → flat_map piece (range_with_len 0 n) ≡ text
  whole n enough = in_row 0 n ∙ ap (λ (m : ℕ). take (n * size) (drop m text)) (sym none) ∙ take_all (n * size) text enough

pub parts_are_text : PartsAreText
parts_are_text text = whole part_size text (parts_of text) (div_ceil_times (length text) part_size (omega arith)).0

-- ---- which parts there are

below : (part size all : ℕ) → all ≤ size * part_size → size * part_size < all + part_size → (part * part_size < all) ↔ (part < size)
below part size all enough no_more = (λ has. omega (arith, has, enough), λ low. omega (arith, low, no_more))

pub has_each_part : HasEachPart
has_each_part origin reply part =
    let all = length (printed_reply origin reply) in
    let times = div_ceil_times all part_size (omega arith) in
    let both = below part (parts_of (printed_reply origin reply)) all times.0 times.1 in
    ltb_from_iff (λ has. both.0 (ltb-true (part * part_size) all has), λ low. lt-ltb (part * part_size) all (both.1 low))

-- ---- the messages

part_within : (origin : Origin) (part : ℕ) (text : List ℕ) → IsOriginWithin origin → part < parts_of text → parts_of text < parts_limit → IsWithin (part_message origin part text)
part_within origin part text within low few = record {
  origin = within;
  part = omega (arith, low, few);
  parts = omega (arith, few);
  bytes = omega (arith, length-take part_size (drop (part * part_size) text));
}

is_within : (origin : Origin) (reply : Reply) (part : ℕ) → IsOriginWithin origin → has_part origin reply part && nat_lt (parts_of (printed_reply origin reply)) parts_limit ≡ true → IsWithin (part_message origin part (printed_reply origin reply))
is_within origin reply part within test =
    let parts = parts_of (printed_reply origin reply) in
    let both = and_parts (has_part origin reply part) (nat_lt parts parts_limit) test in
    part_within origin part (printed_reply origin reply) within (ltb-true part parts (sym (has_each_part origin reply part) ∙ both.0)) (ltb-true parts parts_limit both.1)

pub part_is_within : PartIsWithin
part_is_within reported message within is =
    let some = cond_some (has_part reported.origin reported.reply reported.part && nat_lt (parts_of (reply_text reported)) parts_limit) (part_message reported.origin reported.part (reply_text reported)) message is in
    subst IsWithin some.1 (is_within reported.origin reported.reply reported.part within some.0)

pub part_fits : PartFits
part_fits reported message within is =
    let some = cond_some (has_part reported.origin reported.reply reported.part && nat_lt (parts_of (reply_text reported)) parts_limit) (part_message reported.origin reported.part (reply_text reported)) message is in
    let short : length (part_bytes (reply_text reported) reported.part) ≤ 30000 = omega (arith, length-take part_size (drop (reported.part * part_size) (reply_text reported))) in
    subst (λ (m : Message). length (message_bytes m) ≤ 32768) some.1 (reply_fits _ (is_within reported.origin reported.reply reported.part within some.0) short)
