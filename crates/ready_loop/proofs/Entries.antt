-- Entries: the history goes on where an entry is kept.
use Rattle.std.proofs.Common.{◌≡◌, ℕ, ◌-◌, true, refl, ap, subst, ◌∙◌, List, [], ◌∷◌, ◌++◌, arith, length}
use Rattle.std.specs.Prelude.{Some, drop, take}
use Rattle.std.specs.Str.{bytes_eq}
use Rattle.std.proofs.lemmas.List.{length-append}
use Rattle.std.proofs.lemmas.Bool.{eq-eqb, and_from}
use Rattle.std.proofs.lemmas.Slice.Eq.{bytes_eq-Decides}
use Rattle.std.proofs.Math.Seq.{drop-append_seam, take-append_seam}
use Rattle.definitions.specs.declared.logs.Entry.{Entry}
use Rattle.definitions.specs.declared.logs.Entry.TheVariants.{Chose, Made, Got}
use Rattle.definitions.specs.Logs.{entry_eq}
use Rattle.definition_laws.proofs.Alike.{frame_eq_same, move_eq_same, nonce_eq_same}
use Rattle.session_log.specs.Spelling.{entry_text, chained, FitsEntry}
use Rattle.session_log.specs.Entries.{entry_of}
use Rattle.session_log.specs.Writing.{Writing, mark_of, chain_of, written}
use Rattle.session_log.proofs.Found.{length-sha256}
use Rattle.session_log.proofs.Texts.{entry_read}
use Rattle.socket_station.specs.Items.{Item, KeepCall, Failed, Kept}
use Rattle.peer_rules.specs.declared.phases.Phase.TheVariants.{KeepFault}
use Rattle.loop_rules.specs.Views.{View}
use Rattle.loop_rules.specs.Handling.{sorted_out}
use Rattle.loop_rules.specs.Keeping.{may_keep, may_keep_as, may_keep_in, with_entry, kept_entry}
use Rattle.peer_rules.specs.Entries.{entry_in}
use Rattle.loop_rules.specs.After.{in_phase}
use Rattle.loop_rules.specs.Told.{IsTold}
use Rattle.loop_rules.proofs.Told.{told_goes_on}

-- what is written for an entry says it
pub entry_in_written : (w : Writing) (e : Entry) → FitsEntry e → entry_in w (written w e) ≡ Some e
entry_in_written w e f =
    let mark = mark_of w in
    let text = entry_text e in
    let end = chained (chain_of w) text in
    let behind : drop (length mark) (mark ++ (text ++ end)) ≡ text ++ end = drop-append_seam mark (text ++ end) in
    let all = length-append mark (text ++ end) in
    let two = length-append text end in
    let hashed = length-sha256 (chain_of w ++ text) in
    let long : length (mark ++ (text ++ end)) - length mark - 32 ≡ length text = omega (arith, all, two, hashed) in
    ap (λ (n : ℕ). entry_of (take n (drop (length mark) (mark ++ (text ++ end))))) long
    ∙ ap (λ (xs : List ℕ). entry_of (take (length text) xs)) behind
    ∙ ap entry_of (take-append_seam text end)
    ∙ entry_read e f

pub entry_same : (e : Entry) → entry_eq e e ≡ true
entry_same (Chose t m n) = and_from _ _ (and_from _ _ (eq-eqb t t refl) (move_eq_same m)) (nonce_eq_same n)
entry_same (Made f) = frame_eq_same f
entry_same (Got q f) = and_from _ _ (eq-eqb q q refl) (frame_eq_same f)

-- the bytes of an entry may be kept where the entry may
may_keep_written : (v : View) (e : Entry) → FitsEntry e → may_keep_in v.phase v e ≡ true → may_keep v (written v.writer e) ≡ true
may_keep_written v e f m =
    ap (may_keep_as v (written v.writer e)) (entry_in_written v.writer e f)
    ∙ and_from (bytes_eq (written v.writer e) (written v.writer e)) (may_keep_in v.phase v e) ((bytes_eq-Decides (written v.writer e) (written v.writer e)).1 refl) m

-- an entry that may be kept is
pub kept_tells : (items : List Item) (v : View) (e : Entry) → IsTold items v → FitsEntry e → may_keep_in v.phase v e ≡ true → IsTold (items ++ Kept (written v.writer e) ∷ []) (sorted_out (with_entry e v))
kept_tells items v e told f m =
    subst (IsTold (items ++ Kept (written v.writer e) ∷ [])) (ap (kept_entry v) (entry_in_written v.writer e f))
    (told_goes_on items v (Kept (written v.writer e)) told tt (may_keep_written v e f m))

-- or keeping it fails
pub fault_tells : (items : List Item) (v : View) (e : Entry) → IsTold items v → FitsEntry e → may_keep_in v.phase v e ≡ true → IsTold (items ++ Failed (KeepCall (written v.writer e)) ∷ []) (in_phase KeepFault v)
fault_tells items v e told f m = told_goes_on items v (Failed (KeepCall (written v.writer e))) told tt (may_keep_written v e f m)
