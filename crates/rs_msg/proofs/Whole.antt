-- Whole messages: reading and encoding are inverse, and a message has one encoding.
use Rattle.std.proofs.Common.{◌≡◌, ℕ, ◌^◌, ◌<◌, ◌≤◌, cond, ◌&&◌, eqb, leb, List, [], ◌∷◌, ◌++◌, length, Option, Some, None, Result, Ok, Err, IfOk, IsTrue, refl, sym, ap, subst, ◌∙◌, arith, inl, inr}
use Rattle.std.proofs.lemmas.Bool.{and_parts, leb-true, eqb-true}
use Rattle.std.proofs.lemmas.List.{append-nil}
use Rattle.std.proofs.lemmas.Option.{same_Some}
use Rattle.rs_base.specs.Ident.{is_ident, begins_with_letter, are_name_bytes}
use Rattle.rs_base.specs.Reading.{◌>>=◌, Gives}
use Rattle.rs_base.specs.declared.fault.ReadFault.{ReadFault}
use Rattle.rs_codec.specs.Reader.{byte_at}
use Rattle.rs_codec.specs.Written.{text_bytes}
use Rattle.rs_base.proofs.Steps.{bind_some, held}
use Rattle.rs_codec.proofs.Readers.{either, read_again}
use Rattle.rs_codec.proofs.Writers.{written_text}
use Rattle.rs_msg.specs.declared.message.Ask.{Ask}
use Rattle.rs_msg.specs.declared.message.ReplyPart.{ReplyPart}
use Rattle.rs_msg.specs.declared.message.Message.{Message}
use Rattle.rs_msg.specs.declared.message.Message.TheVariants as messages
use Rattle.rs_msg.specs.Limits.{IsWithin}
use Rattle.rs_msg.specs.Message.{magic, IsAsk, IsReply, IsMessage}
use Rattle.rs_msg.specs.Reader.{ask_at, reply_at, as_ask, as_reply, fields_at, kind_at, message_at, if_at_end, message_of}
use Rattle.rs_msg.specs.Written.{ask_bytes, origin_bytes, reply_bytes, message_bytes}
use Rattle.rs_msg.proofs.Parts.{takes_byte, ask_read, reply_read, once_ask, once_reply}

-- ---- what is encoded is read

forth : (bytes : List ℕ) (m : Message) → IsMessage bytes m → message_of bytes ≡ Some m
unfolding message_of message_at
forth bytes (messages.Ask ask) is =
    let read : ask_at is.0 ≡ Some (ask, []) = ap ask_at (sym (append-nil is.0)) ∙ read_again IsAsk ask_at ask_read is.0 [] ask is.1 in
    ap message_of is.2 ∙ ap (λ (o : Option (Ask × List ℕ)). (o >>= as_ask) >>= if_at_end) read
forth bytes (messages.Reply reply) is =
    let read : reply_at is.0 ≡ Some (reply, []) = ap reply_at (sym (append-nil is.0)) ∙ read_again IsReply reply_at reply_read is.0 [] reply is.1 in
    ap message_of is.2 ∙ ap (λ (o : Option (ReplyPart × List ℕ)). (o >>= as_reply) >>= if_at_end) read

-- ---- what is read is encoded

if_at_end_is : (x : Message × List ℕ) (m : Message) → if_at_end x ≡ Some m → x ≡ (m, [])
if_at_end_is (message, []) m e = ap (λ (n : Message). (n, [])) (same_Some message m e)
if_at_end_is (message, b ∷ bytes) m e = absurd cc

ask_is : (fields : List ℕ) (m : Message) → (ask_at fields >>= as_ask) ≡ Some (m, []) → IsMessage (magic ∷ 1 ∷ fields) m
ask_is fields m e =
    let s = bind_some (ask_at fields) as_ask (m, []) e in
    let same = same_Some (messages.Ask s.0.0, s.0.1) (m, []) s.2 in
    let t = (ask_read fields s.0.1 s.0.0).1 s.1 in
    let end : fields ≡ t.encoding = t.parts ∙ ap (λ (x : Message × List ℕ). t.encoding ++ x.1) same ∙ append-nil t.encoding in
    let found : IsMessage (magic ∷ 1 ∷ fields) (messages.Ask s.0.0) = (t.encoding, t.encoded, ap (λ (bs : List ℕ). magic ∷ 1 ∷ bs) end) in
    subst (λ (x : Message × List ℕ). IsMessage (magic ∷ 1 ∷ fields) x.0) same found

reply_is : (fields : List ℕ) (m : Message) → (reply_at fields >>= as_reply) ≡ Some (m, []) → IsMessage (magic ∷ 2 ∷ fields) m
reply_is fields m e =
    let s = bind_some (reply_at fields) as_reply (m, []) e in
    let same = same_Some (messages.Reply s.0.0, s.0.1) (m, []) s.2 in
    let t = (reply_read fields s.0.1 s.0.0).1 s.1 in
    let end : fields ≡ t.encoding = t.parts ∙ ap (λ (x : Message × List ℕ). t.encoding ++ x.1) same ∙ append-nil t.encoding in
    let found : IsMessage (magic ∷ 2 ∷ fields) (messages.Reply s.0.0) = (t.encoding, t.encoded, ap (λ (bs : List ℕ). magic ∷ 2 ∷ bs) end) in
    subst (λ (x : Message × List ℕ). IsMessage (magic ∷ 2 ∷ fields) x.0) same found

fields_are : (kind : ℕ) (fields : List ℕ) (m : Message) → fields_at kind fields ≡ Some (m, []) → IsMessage (magic ∷ kind ∷ fields) m
fields_are kind fields m e =
    elim (either (eqb kind 1) (ask_at fields >>= as_ask) (cond (eqb kind 2) (reply_at fields >>= as_reply) None) (m, []) e) [
      | inl h ↦ subst (λ (k : ℕ). IsMessage (magic ∷ k ∷ fields) m) (sym (eqb-true kind 1 h.0)) (ask_is fields m h.1)
      | inr h ↦
          let k = held (eqb kind 2) (reply_at fields >>= as_reply) (m, []) h.1 in
          subst (λ (k : ℕ). IsMessage (magic ∷ k ∷ fields) m) (sym (eqb-true kind 2 k.0)) (reply_is fields m k.1)
    ]

back : (bytes : List ℕ) (m : Message) → message_of bytes ≡ Some m → IsMessage bytes m
unfolding message_of message_at
back bytes m e =
    let s = bind_some (message_at bytes) if_at_end m e in
    let read : message_at bytes ≡ Some (m, []) = s.1 ∙ ap (λ (x : Message × List ℕ). Some x) (if_at_end_is s.0 m s.2) in
    let first = bind_some (byte_at bytes) _ (m, []) read in
    let marked = held (eqb first.0.0 magic) (kind_at first.0.1) (m, []) first.2 in
    let kind = bind_some (byte_at first.0.1) _ (m, []) marked.1 in
    let suffix : first.0.1 ≡ kind.0.0 ∷ kind.0.1 = takes_byte first.0.1 kind.0.1 kind.0.0 kind.1 in
    let begins : bytes ≡ first.0.0 ∷ first.0.1 = takes_byte bytes first.0.1 first.0.0 first.1 in
    let whole : bytes ≡ magic ∷ kind.0.0 ∷ kind.0.1 = begins ∙ ap (λ (b : ℕ). b ∷ first.0.1) (eqb-true first.0.0 magic marked.0) ∙ ap (λ (bs : List ℕ). magic ∷ bs) suffix in
    subst (λ (bs : List ℕ). IsMessage bs m) (sym whole) (fields_are kind.0.0 kind.0.1 m kind.2)

pub message_read : (bytes : List ℕ) (m : Message) → (IsMessage bytes m → message_of bytes ≡ Some m) × (message_of bytes ≡ Some m → IsMessage bytes m)
message_read bytes m = (forth bytes m, back bytes m)

-- ---- uniqueness

pub once_message : (a b : List ℕ) (m : Message) → IsMessage a m → IsMessage b m → a ≡ b
once_message a b (messages.Ask ask) p q = p.2 ∙ ap (λ (bs : List ℕ). magic ∷ 1 ∷ bs) (once_ask p.0 q.0 ask p.1 q.1) ∙ sym q.2
once_message a b (messages.Reply reply) p q = p.2 ∙ ap (λ (bs : List ℕ). magic ∷ 2 ∷ bs) (once_reply p.0 q.0 reply p.1 q.1) ∙ sym q.2

pub one_message : (bytes : List ℕ) (m n : Message) → IsMessage bytes m → IsMessage bytes n → m ≡ n
one_message bytes m n p q = same_Some m n (sym (forth bytes m p) ∙ forth bytes n q)

-- ---- the function gives encodings

pub length_ident : (bytes : List ℕ) → IsTrue (is_ident bytes) → length bytes ≤ 24
length_ident bytes is =
    let both = and_parts (leb (length bytes) 24 && begins_with_letter bytes) (are_name_bytes bytes) is in
    leb-true (length bytes) 24 (and_parts (leb (length bytes) 24) (begins_with_letter bytes) both.0).0

pub written_message : (m : Message) → IsWithin m → IsMessage (message_bytes m) m
unfolding ask_bytes origin_bytes reply_bytes
written_message (messages.Ask ask) w =
    let small : length ask.user < 2 ^ 64 = omega (arith, length_ident ask.user w.user) in (
      ask_bytes ask,
      record {
        within = w;
        user = text_bytes ask.user;
        user_is = written_text ask.user small;
        text = text_bytes ask.text;
        text_is = written_text ask.text (omega (arith, w.text));
        parts = refl;
      },
      refl,
    )
written_message (messages.Reply reply) w =
    let small : length reply.origin.user < 2 ^ 64 = omega (arith, length_ident reply.origin.user w.origin.user) in (
      reply_bytes reply,
      record {
        within = w;
        origin = origin_bytes reply.origin;
        origin_is = record { within = w.origin; user = text_bytes reply.origin.user; user_is = written_text reply.origin.user small; parts = refl };
        body = text_bytes reply.bytes;
        body_is = written_text reply.bytes w.bytes;
        parts = refl;
      },
      refl,
    )

pub written_read : (m : Message) → IsWithin m → message_of (message_bytes m) ≡ Some m
written_read m w = forth (message_bytes m) m (written_message m w)

-- ---- what a reader gives

pub found_is : (bytes : List ℕ) (result : Result Message ReadFault) → Gives (λ m. m) result (message_of bytes) → IfOk result (λ m. IsMessage bytes m)
found_is bytes (Ok m) e = back bytes m e
found_is bytes (Err fault) e = tt

pub only_it : (bytes : List ℕ) (result : Result Message ReadFault) (m : Message) → Gives (λ m. m) result (message_of bytes) → IsMessage bytes m → Gives (λ m. m) result (Some m)
only_it bytes result m e is = subst (λ (read : Option Message). Gives (λ m. m) result read) (forth bytes m is) e
