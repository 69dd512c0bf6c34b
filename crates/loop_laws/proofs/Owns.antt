-- Owns: the own frames that may be given grow as entries are kept and synced, and stand in the
-- bytes that were.
use Rattle.std.proofs.Common.{◌≡◌, ℕ, zero, suc, ◌≤◌, refl, sym, ap, subst, ◌∙◌, List, [], ◌∷◌, ◌++◌, length, take, drop, append_assoc, append-nil, take-append-drop, take_all, le_refl, length-append, arith}
use Rattle.std.specs.Prelude.{Option, Some, None, slice_get}
use Rattle.std.specs.List.{fold}
use Rattle.std.proofs.lemmas.List.Concat.{flat_map-append}
use Rattle.definitions.specs.declared.frames.TurnFrame.{TurnFrame}
use Rattle.definitions.specs.declared.logs.Entry.{Entry}
use Rattle.definitions.specs.Logs.{made, made_in}
use Rattle.session_log.specs.Spelling.{log_bytes}
use Rattle.socket_station.specs.Items.{Item, ListenCall, LogCall, DialCall, PollCall, ReadCall, WriteCall, KeepCall, SyncCall, Listening, LogBegun, Dialled, Polled, Took, Gave, ReadNotYet, WriteNotYet, Ended, Failed, Shut, Kept, Synced}
use Rattle.socket_station.specs.Moved.{Log, log_after, log_in, kept_in}
use Rattle.loop_rules.specs.Keeping.{with_entry, kept_entry}
use Rattle.peer_rules.specs.Entries.{entry_in}
use Rattle.loop_rules.specs.Views.{View, safe_frames}
use Rattle.loop_rules.specs.After.{after}
use Rattle.loop_rules.proofs.Kept.{keeps_sorted, keeps_took}
use Rattle.loop_laws.proofs.Frames.{OwnMore}

get_front : (xs ys : List TurnFrame) → OwnMore xs (xs ++ ys)
get_front [] ys n f e = absurd (cc)
get_front (x ∷ xs) ys zero f e = e
get_front (x ∷ xs) ys (suc n) f e = get_front xs ys n f e

own_front : (xs ys : List Entry) → OwnMore (made xs) (made (xs ++ ys))
unfolding made
own_front xs ys place f e =
    subst (λ (x : List TurnFrame). slice_get x place ≡ Some f) (sym (flat_map-append made_in xs ys)) (get_front (made xs) (made ys) place f e)

own_took : (k : ℕ) (xs : List Entry) → OwnMore (made (take k xs)) (made xs)
own_took k xs = subst (λ (x : List Entry). OwnMore (made (take k xs)) (made x)) (take-append-drop k xs) (own_front (take k xs) (drop k xs))

take_front : (k : ℕ) (xs ys : List Entry) → (zs : List Entry) × (take k (xs ++ ys) ≡ take k xs ++ zs)
take_front zero xs ys = ([], refl)
take_front (suc k) [] ys = (take (suc k) ys, refl)
take_front (suc k) (x ∷ xs) ys = let r = take_front k xs ys in (r.0, ap (λ (z : List Entry). x ∷ z) r.1)

own_take : (k : ℕ) (xs ys : List Entry) → OwnMore (made (take k xs)) (made (take k (xs ++ ys)))
own_take k xs ys =
    let r = take_front k xs ys in
    subst (λ (x : List Entry). OwnMore (made (take k xs)) (made x)) (sym r.1) (own_front (take k xs) r.0)

owns_same : (xs : List TurnFrame) → OwnMore xs xs
owns_same xs place f e = e

-- the log and its last sync are as these are
owns_kept : (v w : View) (kept : List Entry) → w.kept ≡ kept → w.synced ≡ v.synced → OwnMore (safe_frames v) (made (take v.synced kept)) → OwnMore (safe_frames v) (safe_frames w)
owns_kept v w kept a b o =
    subst (λ (k : ℕ). OwnMore (safe_frames v) (made (take k w.kept))) (sym b)
    (subst (λ (x : List Entry). OwnMore (safe_frames v) (made (take v.synced x))) (sym a) o)

owns_entry : (v : View) (o : Option Entry) → OwnMore (safe_frames v) (safe_frames (kept_entry v o))
owns_entry v None = owns_same (safe_frames v)
owns_entry v (Some e) =
    let w = with_entry e v in
    let k = keeps_sorted w.table.waiting w in
    owns_kept v (kept_entry v (Some e)) (v.kept ++ e ∷ []) k.kept k.synced (own_take v.synced v.kept (e ∷ []))

owns_synced : (v : View) → OwnMore (safe_frames v) (safe_frames (after v Synced))
owns_synced v = subst (λ (x : List Entry). OwnMore (safe_frames v) (made x)) (sym (take_all (length v.kept) v.kept (le_refl (length v.kept)))) (own_took v.synced v.kept)

pub owns_after : (v : View) (item : Item) → OwnMore (safe_frames v) (safe_frames (after v item))
owns_after v (LogBegun name) = owns_same (safe_frames v)
owns_after v (Listening addr) = owns_same (safe_frames v)
owns_after v (Dialled m q addr) = owns_same (safe_frames v)
owns_after v (Polled list) = owns_same (safe_frames v)
owns_after v (Took m bytes) =
    let k = keeps_took v m bytes in
    owns_kept v (after v (Took m bytes)) v.kept k.kept k.synced (owns_same (safe_frames v))
owns_after v (Gave m bytes) = owns_same (safe_frames v)
owns_after v (ReadNotYet m) = owns_same (safe_frames v)
owns_after v (WriteNotYet m) = owns_same (safe_frames v)
owns_after v (Ended m) = owns_same (safe_frames v)
owns_after v (Shut m) = owns_same (safe_frames v)
owns_after v (Kept bytes) = owns_entry v (entry_in v.writer bytes)
owns_after v Synced = owns_synced v
owns_after v (Failed (ListenCall addr)) = owns_same (safe_frames v)
owns_after v (Failed (LogCall name)) = owns_same (safe_frames v)
owns_after v (Failed (DialCall q addr)) = owns_same (safe_frames v)
owns_after v (Failed PollCall) = owns_same (safe_frames v)
owns_after v (Failed (ReadCall m)) = owns_same (safe_frames v)
owns_after v (Failed (WriteCall m)) = owns_same (safe_frames v)
owns_after v (Failed (KeepCall bytes)) = owns_same (safe_frames v)
owns_after v (Failed SyncCall) = owns_same (safe_frames v)

-- ---- the bytes that were synced

log_more : (log : Log) (items : List Item) → (fold log_after log items).kept ≡ log.kept ++ kept_in items
log_more log [] = sym (append-nil log.kept)
log_more log (Kept bytes ∷ items) = log_more (log_after log (Kept bytes)) items ∙ append_assoc log.kept bytes (kept_in items)
log_more log (Synced ∷ items) = log_more (log_after log Synced) items
log_more log (LogBegun name ∷ items) = log_more log items
log_more log (Listening addr ∷ items) = log_more log items
log_more log (Dialled m q addr ∷ items) = log_more log items
log_more log (Polled list ∷ items) = log_more log items
log_more log (Took m bytes ∷ items) = log_more log items
log_more log (Gave m bytes ∷ items) = log_more log items
log_more log (ReadNotYet m ∷ items) = log_more log items
log_more log (WriteNotYet m ∷ items) = log_more log items
log_more log (Ended m ∷ items) = log_more log items
log_more log (Shut m ∷ items) = log_more log items
log_more log (Failed call ∷ items) = log_more log items

pub log_kept_in : (items : List Item) → (log_in items).kept ≡ kept_in items
log_kept_in items = log_more (record { kept = []; synced = [] }) items

-- these bytes are those of the entries that the last sync found
abbrev pub SyncedSo : (id : List ℕ) → (me : ℕ) → View → (bytes : List ℕ) → Type 0
SyncedSo id me v bytes = (bytes ≡ log_bytes id me (take v.synced v.kept)) × (v.synced ≤ length v.kept)

synced_kept : (id : List ℕ) (me : ℕ) (v w : View) (kept : List Entry) (bytes : List ℕ) → w.kept ≡ v.kept ++ kept → w.synced ≡ v.synced → SyncedSo id me v bytes → SyncedSo id me w bytes
synced_kept id me v w kept bytes a b k =
    let long = length-append v.kept kept in
    let same_length : length w.kept ≡ length (v.kept ++ kept) = ap (λ (x : List Entry). length x) a in
    let less = k.1 in
    let front : take w.synced w.kept ≡ take v.synced v.kept = ap (λ (n : ℕ). take n w.kept) b ∙ ap (λ (x : List Entry). take v.synced x) a ∙ take_within v.synced v.kept kept k.1 in
    (k.0 ∙ ap (log_bytes id me) (sym front), omega (arith, long, same_length, less, b))
  where
    take_within : (n : ℕ) (xs ys : List Entry) → n ≤ length xs → take n (xs ++ ys) ≡ take n xs
    take_within zero xs ys le = refl
    take_within (suc n) [] ys le = absurd (omega arith)
    take_within (suc n) (x ∷ xs) ys le = ap (λ (z : List Entry). x ∷ z) (take_within n xs ys (omega (arith, le)))

synced_entry : (id : List ℕ) (me : ℕ) (v : View) (o : Option Entry) (bytes : List ℕ) → SyncedSo id me v bytes → SyncedSo id me (kept_entry v o) bytes
synced_entry id me v None bytes k = k
synced_entry id me v (Some e) bytes k =
    let w = with_entry e v in
    let same = keeps_sorted w.table.waiting w in
    synced_kept id me v (kept_entry v (Some e)) (e ∷ []) bytes same.kept same.synced k

synced_all : (id : List ℕ) (me : ℕ) (v : View) (bytes : List ℕ) → bytes ≡ log_bytes id me v.kept → SyncedSo id me (after v Synced) bytes
synced_all id me v bytes e = (e ∙ ap (log_bytes id me) (sym (take_all (length v.kept) v.kept (le_refl (length v.kept)))), le_refl (length v.kept))

pub synced_after : (id : List ℕ) (me : ℕ) (v : View) (log : Log) (item : Item) → log.kept ≡ log_bytes id me v.kept → SyncedSo id me v log.synced → SyncedSo id me (after v item) (log_after log item).synced
synced_after id me v log (LogBegun name) e k = k
synced_after id me v log (Listening addr) e k = k
synced_after id me v log (Dialled m q addr) e k = k
synced_after id me v log (Polled list) e k = k
synced_after id me v log (Took m bytes) e k =
    let same = keeps_took v m bytes in
    synced_kept id me v (after v (Took m bytes)) [] log.synced (same.kept ∙ sym (append-nil v.kept)) same.synced k
synced_after id me v log (Gave m bytes) e k = k
synced_after id me v log (ReadNotYet m) e k = k
synced_after id me v log (WriteNotYet m) e k = k
synced_after id me v log (Ended m) e k = k
synced_after id me v log (Shut m) e k = k
synced_after id me v log (Kept bytes) e k = synced_entry id me v (entry_in v.writer bytes) log.synced k
synced_after id me v log Synced e k = synced_all id me v log.kept e
synced_after id me v log (Failed (ListenCall addr)) e k = k
synced_after id me v log (Failed (LogCall name)) e k = k
synced_after id me v log (Failed (DialCall q addr)) e k = k
synced_after id me v log (Failed PollCall) e k = k
synced_after id me v log (Failed (ReadCall m)) e k = k
synced_after id me v log (Failed (WriteCall m)) e k = k
synced_after id me v log (Failed (KeepCall bytes)) e k = k
synced_after id me v log (Failed SyncCall) e k = k
