-- The fields of messages: reading and encoding are inverse, and a value has one encoding.
use Rattle.std.proofs.Common.{◌≡◌, ℕ, ◌^◌, ◌<◌, ◌≤◌, Bool, cond, true, ◌&&◌, leb, List, [], ◌∷◌, ◌++◌, length, Option, Some, None, refl, sym, ap, subst, ◌∙◌, arith, append_assoc}
use Rattle.std.specs.Int.{w32, w64, to_be_bytes}
use Rattle.std.proofs.lemmas.Bool.{and_parts, and_from, leb-true, le-leb}
use Rattle.std.proofs.lemmas.Option.{same_Some, cond_some}
use Rattle.rs_base.specs.Ident.{is_ident}
use Rattle.rs_base.specs.Reading.{◌>>=◌}
use Rattle.rs_base.specs.declared.txn.Origin.{Origin}
use Rattle.rs_codec.specs.Encoding.{IsByte, IsU32, IsU64, IsText, Takes}
use Rattle.rs_codec.specs.Laws.{IsReadBy, IsEncodedOnce}
use Rattle.rs_codec.specs.Reader.{byte_at, u32_at, u64_at, text_at}
use Rattle.rs_base.proofs.Steps.{bind_some}
use Rattle.rs_codec.proofs.Readers.{bind_at, read_by, read_again, byte_read, u32_read, u64_read, text_read}
use Rattle.rs_codec.proofs.Writers.{once_text}
use Rattle.rs_msg.specs.declared.message.Ask.{Ask}
use Rattle.rs_msg.specs.declared.message.ReplyPart.{ReplyPart}
use Rattle.rs_msg.specs.Limits.{ask_limit, IsAskWithin, IsOriginWithin, IsReplyWithin}
use Rattle.rs_msg.specs.Message.{IsAsk, IsOrigin, IsReply}
use Rattle.rs_msg.specs.Reader.{user_at, short_text_at, site_at, origin_at, ask_at, reply_at}

-- ---- consumed bytes

-- two parts joined
joins : (bytes prefix middle back rest : List ℕ) → bytes ≡ prefix ++ middle → middle ≡ back ++ rest → bytes ≡ (prefix ++ back) ++ rest
joins bytes prefix middle back rest e f = e ∙ ap (λ (bs : List ℕ). prefix ++ bs) f ∙ sym (append_assoc prefix back rest)

-- parts in a row, and the bytes after them
spread_3 : (bytes a b c rest : List ℕ) → bytes ≡ a ++ b ++ c → bytes ++ rest ≡ a ++ (b ++ (c ++ rest))
spread_3 bytes a b c rest p = ap (λ (bs : List ℕ). bs ++ rest) p ∙ append_assoc (a ++ b) c rest ∙ append_assoc a b (c ++ rest)

spread_4 : (bytes a b c d rest : List ℕ) → bytes ≡ a ++ b ++ c ++ d → bytes ++ rest ≡ a ++ (b ++ (c ++ (d ++ rest)))
spread_4 bytes a b c d rest p = ap (λ (bs : List ℕ). bs ++ rest) p ∙ append_assoc (a ++ b ++ c) d rest ∙ append_assoc (a ++ b) c (d ++ rest) ∙ append_assoc a b (c ++ (d ++ rest))

spread_5 : (bytes a b c d e rest : List ℕ) → bytes ≡ a ++ b ++ c ++ d ++ e → bytes ++ rest ≡ a ++ (b ++ (c ++ (d ++ (e ++ rest))))
spread_5 bytes a b c d e rest p =
    ap (λ (bs : List ℕ). bs ++ rest) p ∙ append_assoc (a ++ b ++ c ++ d) e rest ∙ append_assoc (a ++ b ++ c) d (e ++ rest) ∙ append_assoc (a ++ b) c (d ++ (e ++ rest)) ∙ append_assoc a b (c ++ (d ++ (e ++ rest)))

takes_u32 : (bytes rest : List ℕ) (n : ℕ) → u32_at bytes ≡ Some (n, rest) → (n < 2 ^ 32) × (bytes ≡ to_be_bytes w32 n ++ rest)
takes_u32 bytes rest n e =
    let t = (u32_read bytes rest n).1 e in
    (t.encoded.0, t.parts ∙ ap (λ (bs : List ℕ). bs ++ rest) t.encoded.1)

takes_u64 : (bytes rest : List ℕ) (n : ℕ) → u64_at bytes ≡ Some (n, rest) → (n < 2 ^ 64) × (bytes ≡ to_be_bytes w64 n ++ rest)
takes_u64 bytes rest n e =
    let t = (u64_read bytes rest n).1 e in
    (t.encoded.0, t.parts ∙ ap (λ (bs : List ℕ). bs ++ rest) t.encoded.1)

pub takes_byte : (bytes rest : List ℕ) (n : ℕ) → byte_at bytes ≡ Some (n, rest) → bytes ≡ n ∷ rest
takes_byte bytes rest n e =
    let t = (byte_read bytes rest n).1 e in
    t.parts ∙ ap (λ (bs : List ℕ). bs ++ rest) t.encoded.1

-- ---- numbers are read

reads_u32 : (rest : List ℕ) (n : ℕ) → n < 2 ^ 32 → u32_at (to_be_bytes w32 n ++ rest) ≡ Some (n, rest)
reads_u32 rest n below = read_again IsU32 u32_at u32_read (to_be_bytes w32 n) rest n (below, refl)

reads_u64 : (rest : List ℕ) (n : ℕ) → n < 2 ^ 64 → u64_at (to_be_bytes w64 n ++ rest) ≡ Some (n, rest)
reads_u64 rest n below = read_again IsU64 u64_at u64_read (to_be_bytes w64 n) rest n (below, refl)

-- ---- fields with a test

module _ {X : Type 0} (IsX : List ℕ → X → Type 0) (x_at : List ℕ → Option (X × List ℕ)) (test : X → Bool) where
  -- a field whose value satisfies the test
  abbrev pub IsTested : List ℕ → X → Type 0
  IsTested bytes x = IsX bytes x × (test x ≡ true)

  abbrev pub tested_at : List ℕ → Option (X × List ℕ)
  tested_at bytes = x_at bytes >>= λ x. cond (test x.0) (Some x) None

  tested_back : IsReadBy IsX x_at → (bytes rest : List ℕ) (x : X) → tested_at bytes ≡ Some (x, rest) → Takes IsTested bytes rest x
  tested_back reads bytes rest x e =
      let s = bind_some (x_at bytes) _ (x, rest) e in
      let c = cond_some (test s.0.0) s.0 (x, rest) s.2 in
      let t = (reads bytes s.0.1 s.0.0).1 s.1 in
      subst (λ (p : X × List ℕ). Takes IsTested bytes p.1 p.0) c.1 (record { encoding = t.encoding; encoded = (t.encoded, c.0); parts = t.parts })

  tested_forth : IsReadBy IsX x_at → (encoding rest : List ℕ) (x : X) → IsTested encoding x → tested_at (encoding ++ rest) ≡ Some (x, rest)
  tested_forth reads encoding rest x is = bind_at (x_at (encoding ++ rest)) _ (x, rest) (read_again IsX x_at reads encoding rest x is.0) ∙ rw is.1 refl

  pub tested_read : IsReadBy IsX x_at → IsReadBy IsTested tested_at
  tested_read reads = read_by IsTested tested_at (tested_forth reads) (tested_back reads)

user_read : IsReadBy (IsTested IsText text_at is_ident) user_at
unfolding user_at
user_read = tested_read IsText text_at is_ident text_read

abbrev is_short : ℕ → List ℕ → Bool
is_short limit text = leb (length text) limit

short_read : (limit : ℕ) → IsReadBy (IsTested IsText text_at (is_short limit)) (short_text_at limit)
unfolding short_text_at
short_read limit = tested_read IsText text_at (is_short limit) text_read

abbrev is_site : ℕ → Bool
is_site site = leb 1 site && leb site 16

site_read : IsReadBy (IsTested IsByte byte_at is_site) site_at
unfolding site_at
site_read = tested_read IsByte byte_at is_site byte_read

-- ---- requests

ask_taken : (bytes r1 r2 r3 r4 rest user text : List ℕ) (ask : Ask) → IsAskWithin ask → IsText user ask.user → IsText text ask.text
    → bytes ≡ user ++ r1 → r1 ≡ to_be_bytes w32 ask.epoch ++ r2 → r2 ≡ to_be_bytes w64 ask.number ++ r3 → r3 ≡ to_be_bytes w32 ask.part ++ r4 → r4 ≡ text ++ rest → Takes IsAsk bytes rest ask
ask_taken bytes r1 r2 r3 r4 rest user text ask within user_is text_is e1 e2 e3 e4 e5 =
    let epoch = to_be_bytes w32 ask.epoch in
    let number = to_be_bytes w64 ask.number in
    let part = to_be_bytes w32 ask.part in
    record {
      encoding = user ++ epoch ++ number ++ part ++ text;
      encoded = record { within = within; user = user; user_is = user_is; text = text; text_is = text_is; parts = refl };
      parts = joins bytes (user ++ epoch ++ number ++ part) r4 text rest
          (joins bytes (user ++ epoch ++ number) r3 part r4
          (joins bytes (user ++ epoch) r2 number r3
          (joins bytes user r1 epoch r2 e1 e2) e3) e4) e5;
    }

ask_back : (bytes rest : List ℕ) (ask : Ask) → ask_at bytes ≡ Some (ask, rest) → Takes IsAsk bytes rest ask
unfolding ask_at
ask_back bytes rest ask e =
    let a = bind_some (user_at bytes) _ (ask, rest) e in
    let b = bind_some (u32_at a.0.1) _ (ask, rest) a.2 in
    let c = bind_some (u64_at b.0.1) _ (ask, rest) b.2 in
    let d = bind_some (u32_at c.0.1) _ (ask, rest) c.2 in
    let f = bind_some (short_text_at ask_limit d.0.1) _ (ask, rest) d.2 in
    let user = (user_read bytes a.0.1 a.0.0).1 a.1 in
    let epoch = takes_u32 a.0.1 b.0.1 b.0.0 b.1 in
    let number = takes_u64 b.0.1 c.0.1 c.0.0 c.1 in
    let part = takes_u32 c.0.1 d.0.1 d.0.0 d.1 in
    let text = (short_read ask_limit d.0.1 f.0.1 f.0.0).1 f.1 in
    let found : Ask = record { user = a.0.0; epoch = b.0.0; number = c.0.0; part = d.0.0; text = f.0.0 } in
    let within : IsAskWithin found = record { user = user.encoded.1; epoch = epoch.0; number = number.0; part = part.0; text = leb-true (length f.0.0) ask_limit text.encoded.1 } in
    subst (λ (p : Ask × List ℕ). Takes IsAsk bytes p.1 p.0) (same_Some (found, f.0.1) (ask, rest) f.2)
    (ask_taken bytes a.0.1 b.0.1 c.0.1 d.0.1 f.0.1 user.encoding text.encoding found within user.encoded.0 text.encoded.0 user.parts epoch.1 number.1 part.1 text.parts)

ask_forth : (encoding rest : List ℕ) (ask : Ask) → IsAsk encoding ask → ask_at (encoding ++ rest) ≡ Some (ask, rest)
unfolding ask_at
ask_forth encoding rest ask is =
    let text = is.text ++ rest in
    let part = to_be_bytes w32 ask.part ++ text in
    let number = to_be_bytes w64 ask.number ++ part in
    let epoch = to_be_bytes w32 ask.epoch ++ number in
    let parts : encoding ++ rest ≡ is.user ++ epoch = spread_5 encoding is.user (to_be_bytes w32 ask.epoch) (to_be_bytes w64 ask.number) (to_be_bytes w32 ask.part) is.text rest is.parts in
    let one = ap user_at parts ∙ read_again (IsTested IsText text_at is_ident) user_at user_read is.user epoch ask.user (is.user_is, is.within.user) in
    let five = read_again (IsTested IsText text_at (is_short ask_limit)) (short_text_at ask_limit) (short_read ask_limit) is.text rest ask.text (is.text_is, le-leb (length ask.text) ask_limit is.within.text) in
    bind_at (user_at (encoding ++ rest)) _ (ask.user, epoch) one
    ∙ bind_at (u32_at epoch) _ (ask.epoch, number) (reads_u32 number ask.epoch is.within.epoch)
    ∙ bind_at (u64_at number) _ (ask.number, part) (reads_u64 part ask.number is.within.number)
    ∙ bind_at (u32_at part) _ (ask.part, text) (reads_u32 text ask.part is.within.part)
    ∙ bind_at (short_text_at ask_limit text) _ (ask.text, rest) five

pub ask_read : IsReadBy IsAsk ask_at
ask_read = read_by IsAsk ask_at ask_forth ask_back

-- ---- origins

site_from : (n : ℕ) → is_site n ≡ true → (1 ≤ n) × (n ≤ 16)
site_from n e = let both = and_parts (leb 1 n) (leb n 16) e in (leb-true 1 n both.0, leb-true n 16 both.1)

site_to : (n : ℕ) → (1 ≤ n) × (n ≤ 16) → is_site n ≡ true
site_to n h = and_from (leb 1 n) (leb n 16) (le-leb 1 n h.0) (le-leb n 16 h.1)

origin_taken : (bytes r0 r1 r2 rest user : List ℕ) (origin : Origin) → IsOriginWithin origin → IsText user origin.user
    → bytes ≡ origin.site ∷ r0 → r0 ≡ user ++ r1 → r1 ≡ to_be_bytes w32 origin.epoch ++ r2 → r2 ≡ to_be_bytes w64 origin.number ++ rest → Takes IsOrigin bytes rest origin
origin_taken bytes r0 r1 r2 rest user origin within user_is e0 e1 e2 e3 =
    let prefix = origin.site ∷ user in
    let epoch = to_be_bytes w32 origin.epoch in
    let number = to_be_bytes w64 origin.number in
    let first : bytes ≡ prefix ++ r1 = e0 ∙ ap (λ (bs : List ℕ). origin.site ∷ bs) e1 in
    record {
      encoding = prefix ++ epoch ++ number;
      encoded = record { within = within; user = user; user_is = user_is; parts = refl };
      parts = joins bytes (prefix ++ epoch) r2 number rest (joins bytes prefix r1 epoch r2 first e2) e3;
    }

origin_back : (bytes rest : List ℕ) (origin : Origin) → origin_at bytes ≡ Some (origin, rest) → Takes IsOrigin bytes rest origin
unfolding origin_at
origin_back bytes rest origin e =
    let a = bind_some (site_at bytes) _ (origin, rest) e in
    let b = bind_some (user_at a.0.1) _ (origin, rest) a.2 in
    let c = bind_some (u32_at b.0.1) _ (origin, rest) b.2 in
    let d = bind_some (u64_at c.0.1) _ (origin, rest) c.2 in
    let site = (site_read bytes a.0.1 a.0.0).1 a.1 in
    let user = (user_read a.0.1 b.0.1 b.0.0).1 b.1 in
    let epoch = takes_u32 b.0.1 c.0.1 c.0.0 c.1 in
    let number = takes_u64 c.0.1 d.0.1 d.0.0 d.1 in
    let found : Origin = record { site = a.0.0; user = b.0.0; epoch = c.0.0; number = d.0.0 } in
    let within : IsOriginWithin found = record { site = site_from a.0.0 site.encoded.1; user = user.encoded.1; epoch = epoch.0; number = number.0 } in
    let first : bytes ≡ a.0.0 ∷ a.0.1 = site.parts ∙ ap (λ (bs : List ℕ). bs ++ a.0.1) site.encoded.0.1 in
    subst (λ (p : Origin × List ℕ). Takes IsOrigin bytes p.1 p.0) (same_Some (found, d.0.1) (origin, rest) d.2)
    (origin_taken bytes a.0.1 b.0.1 c.0.1 d.0.1 user.encoding found within user.encoded.0 first user.parts epoch.1 number.1)

origin_forth : (encoding rest : List ℕ) (origin : Origin) → IsOrigin encoding origin → origin_at (encoding ++ rest) ≡ Some (origin, rest)
unfolding origin_at
origin_forth encoding rest origin is =
    let number = to_be_bytes w64 origin.number ++ rest in
    let epoch = to_be_bytes w32 origin.epoch ++ number in
    let user = is.user ++ epoch in
    let parts : encoding ++ rest ≡ (origin.site ∷ []) ++ user = spread_3 encoding (origin.site ∷ is.user) (to_be_bytes w32 origin.epoch) (to_be_bytes w64 origin.number) rest is.parts in
    let small : origin.site < 256 = omega (arith, is.within.site.1) in
    let one = ap site_at parts ∙ read_again (IsTested IsByte byte_at is_site) site_at site_read (origin.site ∷ []) user origin.site ((small, refl), site_to origin.site is.within.site) in
    bind_at (site_at (encoding ++ rest)) _ (origin.site, user) one
    ∙ bind_at (user_at user) _ (origin.user, epoch) (read_again (IsTested IsText text_at is_ident) user_at user_read is.user epoch origin.user (is.user_is, is.within.user))
    ∙ bind_at (u32_at epoch) _ (origin.epoch, number) (reads_u32 number origin.epoch is.within.epoch)
    ∙ bind_at (u64_at number) _ (origin.number, rest) (reads_u64 rest origin.number is.within.number)

pub origin_read : IsReadBy IsOrigin origin_at
origin_read = read_by IsOrigin origin_at origin_forth origin_back

-- ---- replies

reply_taken : (bytes r1 r2 r3 rest origin body : List ℕ) (reply : ReplyPart) → IsReplyWithin reply → IsOrigin origin reply.origin → IsText body reply.bytes
    → bytes ≡ origin ++ r1 → r1 ≡ to_be_bytes w32 reply.part ++ r2 → r2 ≡ to_be_bytes w32 reply.parts ++ r3 → r3 ≡ body ++ rest → Takes IsReply bytes rest reply
reply_taken bytes r1 r2 r3 rest origin body reply within origin_is body_is e1 e2 e3 e4 =
    let part = to_be_bytes w32 reply.part in
    let all = to_be_bytes w32 reply.parts in
    record {
      encoding = origin ++ part ++ all ++ body;
      encoded = record { within = within; origin = origin; origin_is = origin_is; body = body; body_is = body_is; parts = refl };
      parts = joins bytes (origin ++ part ++ all) r3 body rest
          (joins bytes (origin ++ part) r2 all r3
          (joins bytes origin r1 part r2 e1 e2) e3) e4;
    }

reply_back : (bytes rest : List ℕ) (reply : ReplyPart) → reply_at bytes ≡ Some (reply, rest) → Takes IsReply bytes rest reply
unfolding reply_at
reply_back bytes rest reply e =
    let a = bind_some (origin_at bytes) _ (reply, rest) e in
    let b = bind_some (u32_at a.0.1) _ (reply, rest) a.2 in
    let c = bind_some (u32_at b.0.1) _ (reply, rest) b.2 in
    let d = bind_some (text_at c.0.1) _ (reply, rest) c.2 in
    let origin = (origin_read bytes a.0.1 a.0.0).1 a.1 in
    let part = takes_u32 a.0.1 b.0.1 b.0.0 b.1 in
    let all = takes_u32 b.0.1 c.0.1 c.0.0 c.1 in
    let body = (text_read c.0.1 d.0.1 d.0.0).1 d.1 in
    let found : ReplyPart = record { origin = a.0.0; part = b.0.0; parts = c.0.0; bytes = d.0.0 } in
    let within : IsReplyWithin found = record { origin = origin.encoded.within; part = part.0; parts = all.0; bytes = body.encoded.counted.below } in
    subst (λ (p : ReplyPart × List ℕ). Takes IsReply bytes p.1 p.0) (same_Some (found, d.0.1) (reply, rest) d.2)
    (reply_taken bytes a.0.1 b.0.1 c.0.1 d.0.1 origin.encoding body.encoding found within origin.encoded body.encoded origin.parts part.1 all.1 body.parts)

reply_forth : (encoding rest : List ℕ) (reply : ReplyPart) → IsReply encoding reply → reply_at (encoding ++ rest) ≡ Some (reply, rest)
unfolding reply_at
reply_forth encoding rest reply is =
    let body = is.body ++ rest in
    let all = to_be_bytes w32 reply.parts ++ body in
    let part = to_be_bytes w32 reply.part ++ all in
    let parts : encoding ++ rest ≡ is.origin ++ part = spread_4 encoding is.origin (to_be_bytes w32 reply.part) (to_be_bytes w32 reply.parts) is.body rest is.parts in
    let one = ap origin_at parts ∙ read_again IsOrigin origin_at origin_read is.origin part reply.origin is.origin_is in
    bind_at (origin_at (encoding ++ rest)) _ (reply.origin, part) one
    ∙ bind_at (u32_at part) _ (reply.part, all) (reads_u32 all reply.part is.within.part)
    ∙ bind_at (u32_at all) _ (reply.parts, body) (reads_u32 body reply.parts is.within.parts)
    ∙ bind_at (text_at body) _ (reply.bytes, rest) (read_again IsText text_at text_read is.body rest reply.bytes is.body_is)

pub reply_read : IsReadBy IsReply reply_at
reply_read = read_by IsReply reply_at reply_forth reply_back

-- ---- uniqueness

pub once_ask : IsEncodedOnce IsAsk
once_ask a b ask p q =
    let fixed = λ (user text : List ℕ). user ++ to_be_bytes w32 ask.epoch ++ to_be_bytes w64 ask.number ++ to_be_bytes w32 ask.part ++ text in
    p.parts ∙ ap (λ (user : List ℕ). fixed user p.text) (once_text p.user q.user ask.user p.user_is q.user_is) ∙ ap (λ (text : List ℕ). fixed q.user text) (once_text p.text q.text ask.text p.text_is q.text_is) ∙ sym q.parts

once_origin : IsEncodedOnce IsOrigin
once_origin a b origin p q =
    p.parts ∙ ap (λ (user : List ℕ). origin.site ∷ user ++ to_be_bytes w32 origin.epoch ++ to_be_bytes w64 origin.number) (once_text p.user q.user origin.user p.user_is q.user_is) ∙ sym q.parts

pub once_reply : IsEncodedOnce IsReply
once_reply a b reply p q =
    let fixed = λ (origin body : List ℕ). origin ++ to_be_bytes w32 reply.part ++ to_be_bytes w32 reply.parts ++ body in
    p.parts ∙ ap (λ (origin : List ℕ). fixed origin p.body) (once_origin p.origin q.origin reply.origin p.origin_is q.origin_is) ∙ ap (λ (body : List ℕ). fixed q.origin body) (once_text p.body q.body reply.bytes p.body_is q.body_is) ∙ sym q.parts
