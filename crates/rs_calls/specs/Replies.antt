-- The form of replies to calls.
use Rattle.rs_ast.specs.declared.entry.Entry.{Entry}
use Rattle.rs_base.specs.declared.lock.Resource.{Resource}
use Rattle.rs_base.specs.declared.name.Swn.{Swn}
use Rattle.rs_base.specs.declared.reply.Denial.{Denial}
use Rattle.rs_base.specs.declared.txn.Enlist.{Enlist}
use Rattle.rs_base.specs.declared.value.Value.{Value}
use Rattle.rs_calls.specs.Programs.{body, head}
use Rattle.rs_encode.specs.Form.{Form, bare, both, list, option}
use Rattle.rs_encode.specs.Values.{bool, denial, eight_bytes, enlist, resource, site, swn, value}
use Rattle.rs_encode.specs.Variants.{enum, last, variant}
use Rattle.rs_encode_ast.specs.Entries.{entry}
use Rattle.rs_plan.specs.declared.call_reply.CallReply.{CallReply}
use Rattle.rs_plan.specs.declared.call_reply.CallReply.TheVariants as replies
use Rattle.rs_plan.specs.declared.program.Body.{Body}
use Rattle.rs_plan.specs.declared.program.Head.{Head}
use Rattle.std.specs.Prelude.{Bool, List, Option, ℕ, ◌⊎◌}
use mathlib.Core.Logic.{inl, inr}

abbrev pub call_reply_of :
    (Option Swn) ⊎ ((Unit {0}) ⊎ ((Unit {0}) ⊎ ((Unit {0}) ⊎ ((Option ℕ) ⊎ (Entry ⊎ ((Unit {0}) ⊎ (((List (List Value)) ×
    Bool) ⊎ (ℕ ⊎ (Denial ⊎ ((Unit {0}) ⊎ ((Unit {0}) ⊎ ((Option Head) ⊎ (Body ⊎ (Resource × Enlist)))))))))))))) → CallReply
call_reply_of (inl f) = replies.Name f
call_reply_of (inr (inl f)) = replies.Done
call_reply_of (inr (inr (inl f))) = replies.Taken
call_reply_of (inr (inr (inr (inl f)))) = replies.Absent
call_reply_of (inr (inr (inr (inr (inl f))))) = replies.Place f
call_reply_of (inr (inr (inr (inr (inr (inl f)))))) = replies.Entry f
call_reply_of (inr (inr (inr (inr (inr (inr (inl f))))))) = replies.NotHere
call_reply_of (inr (inr (inr (inr (inr (inr (inr (inl f)))))))) = replies.Rows f.0 f.1
call_reply_of (inr (inr (inr (inr (inr (inr (inr (inr (inl f))))))))) = replies.Changed f
call_reply_of (inr (inr (inr (inr (inr (inr (inr (inr (inr (inl f)))))))))) = replies.Refused f
call_reply_of (inr (inr (inr (inr (inr (inr (inr (inr (inr (inr (inl f))))))))))) = replies.Stale
call_reply_of (inr (inr (inr (inr (inr (inr (inr (inr (inr (inr (inr (inl f)))))))))))) = replies.Invalid
call_reply_of (inr (inr (inr (inr (inr (inr (inr (inr (inr (inr (inr (inr (inl f))))))))))))) = replies.Head f
call_reply_of (inr (inr (inr (inr (inr (inr (inr (inr (inr (inr (inr (inr (inr (inl f)))))))))))))) = replies.Body f
call_reply_of (inr (inr (inr (inr (inr (inr (inr (inr (inr (inr (inr (inr (inr (inr f)))))))))))))) = replies.Waited f.0 f.1

abbrev pub call_reply_parts : CallReply →
    (Option Swn) ⊎ ((Unit {0}) ⊎ ((Unit {0}) ⊎ ((Unit {0}) ⊎ ((Option ℕ) ⊎ (Entry ⊎ ((Unit {0}) ⊎ (((List (List Value)) ×
    Bool) ⊎ (ℕ ⊎ (Denial ⊎ ((Unit {0}) ⊎ ((Unit {0}) ⊎ ((Option Head) ⊎ (Body ⊎ (Resource × Enlist))))))))))))))
call_reply_parts (replies.Name field) = inl field
call_reply_parts replies.Done = inr (inl tt)
call_reply_parts replies.Taken = inr (inr (inl tt))
call_reply_parts replies.Absent = inr (inr (inr (inl tt)))
call_reply_parts (replies.Place field) = inr (inr (inr (inr (inl field))))
call_reply_parts (replies.Entry field) = inr (inr (inr (inr (inr (inl field)))))
call_reply_parts replies.NotHere = inr (inr (inr (inr (inr (inr (inl tt))))))
call_reply_parts (replies.Rows rows more) = inr (inr (inr (inr (inr (inr (inr (inl (rows, more))))))))
call_reply_parts (replies.Changed field) = inr (inr (inr (inr (inr (inr (inr (inr (inl field))))))))
call_reply_parts (replies.Refused field) = inr (inr (inr (inr (inr (inr (inr (inr (inr (inl field)))))))))
call_reply_parts replies.Stale = inr (inr (inr (inr (inr (inr (inr (inr (inr (inr (inl tt))))))))))
call_reply_parts replies.Invalid = inr (inr (inr (inr (inr (inr (inr (inr (inr (inr (inr (inl tt)))))))))))
call_reply_parts (replies.Head field) = inr (inr (inr (inr (inr (inr (inr (inr (inr (inr (inr (inr (inl field))))))))))))
call_reply_parts (replies.Body field) =
    inr (inr (inr (inr (inr (inr (inr (inr (inr (inr (inr (inr (inr (inl field)))))))))))))
call_reply_parts (replies.Waited first second) =
    inr (inr (inr (inr (inr (inr (inr (inr (inr (inr (inr (inr (inr (inr (first, second))))))))))))))

-- a reply to a call
unfoldable pub call_reply : Form CallReply
call_reply = enum call_reply_of call_reply_parts
    (variant 1 (option swn)
    (variant 2 bare
    (variant 3 bare
    (variant 4 bare
    (variant 5 (option site)
    (variant 6 entry
    (variant 7 bare
    (variant 8 (both (list (list value)) bool)
    (variant 9 eight_bytes
    (variant 10 denial
    (variant 11 bare
    (variant 12 bare
    (variant 13 (option head)
    (variant 14 body
    (last 15 (both resource enlist))))))))))))))))
