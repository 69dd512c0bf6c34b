-- Synced: the bytes up to the last sync are those of the entries that it found, and of these there are ever more.
use Rattle.std.proofs.Common.{◌≡◌, inl, inr, ℕ, ◌≤◌, true, refl, sym, ap, subst, ◌∙◌, List, [], ◌∷◌, ◌++◌, arith, length, take, drop, length-append, append_assoc, append-nil}
use Rattle.std.specs.List.{fold}
use Rattle.std.proofs.lemmas.Bool.{and_parts}
use Rattle.std.proofs.lemmas.List.{take-append-le, take-append-drop, take_all}
use Rattle.plain_lemmas.proofs.Each.{each_append}
use Rattle.definitions.specs.Lists.{EachIs}
use Rattle.definitions.specs.declared.logs.Entry.{Entry}
use Rattle.session_log.specs.Spelling.{log_bytes}
use Rattle.session_log.specs.Writing.{Writing, fresh, written, all_written}
use Rattle.session_log.specs.Writing as W
use Rattle.session_log.proofs.Logs.{log_written}
use Rattle.socket_station.specs.Items.{Item}
use Rattle.socket_station.specs.Moved.{Log, log_after, log_in, synced_in}
use Rattle.loop_rules.specs.Settings.{Setting}
use Rattle.loop_rules.specs.Views.{View, start}
use Rattle.loop_rules.specs.After.{after, view_after, view_of}
use Rattle.loop_rules.specs.Histories.{are_allowed, IsHistory}
use Rattle.loop_rules.proofs.Prefixes.{prefixes, behind}
use Rattle.peer_command.proofs.Moves.{IsRead, Rests, Adds, Syncs, Moves, moves}

-- the entries that the last sync found
abbrev pub safe : View → List Entry
safe v = take v.synced v.kept

-- the writer behind entries
abbrev pub writer_behind : Writing → List Entry → Writing
writer_behind w [] = w
writer_behind w (e ∷ entries) = writer_behind (W.after w e) entries

written_more : (w : Writing) (es : List Entry) (e : Entry) → all_written w (es ++ e ∷ []) ≡ all_written w es ++ written (writer_behind w es) e
written_more w [] e = append-nil (written w e)
written_more w (d ∷ es) e =
    let later : Writing = W.after w d in
    ap (λ (x : List ℕ). written w d ++ x) (written_more later es e) ∙ sym (append_assoc (written w d) (all_written later es) (written (writer_behind later es) e))

writer_more : (w : Writing) (es : List Entry) (e : Entry) → writer_behind w (es ++ e ∷ []) ≡ W.after (writer_behind w es) e
writer_more w [] e = refl
writer_more w (d ∷ es) e = writer_more (W.after w d) es e

-- what the station keeps is what the view shows
pub record Stands (w : Writing) (v : View) (log : Log) : Type 0 where
  pub writer : v.writer ≡ writer_behind w v.kept
  pub kept : log.kept ≡ all_written w v.kept
  pub synced : log.synced ≡ all_written w (safe v)
  pub within : v.synced ≤ length v.kept
  pub read : EachIs IsRead v.kept

-- the entries that a sync found go on
abbrev pub Grows : View → View → Type 0
Grows v w = (more : List Entry) × (safe w ≡ safe v ++ more)

abbrev Goes : Writing → View → View → Log → Type 0
Goes w v behind log = Stands w behind log × Grows v behind

grows_same : (v w : View) → safe w ≡ safe v → Grows v w
grows_same v w e = ([], e ∙ sym (append-nil (safe v)))

goes_rests : (w : Writing) (v behind : View) (item : Item) (log : Log) → Rests v item behind → Stands w v log → Goes w v behind (log_after log item)
goes_rests w v behind item log r s =
    let same : safe behind ≡ safe v = ap (λ (n : ℕ). take n behind.kept) r.synced ∙ ap (take v.synced) r.kept in
    let within = s.within in
    let place = r.synced in
    let few = ap (λ (x : List Entry). length x) r.kept in (
      subst (Stands w behind) (sym (r.log log)) (record {
        writer = r.writer ∙ s.writer ∙ ap (writer_behind w) (sym r.kept);
        kept = s.kept ∙ ap (all_written w) (sym r.kept);
        synced = s.synced ∙ ap (all_written w) (sym same);
        within = omega arith;
        read = subst (EachIs IsRead) (sym r.kept) s.read;
      }),
      grows_same v behind same,
    )

goes_adds : (w : Writing) (v behind : View) (item : Item) (log : Log) → Adds v item behind → Stands w v log → Goes w v behind (log_after log item)
goes_adds w v behind item log r s =
    let k = r.keeps in
    let e = r.entry in
    let bytes : List ℕ = written v.writer e in
    let within = s.within in
    let place = k.synced in
    let many = ap (λ (x : List Entry). length x) k.kept in
    let longer = length-append v.kept (e ∷ []) in
    let same : safe behind ≡ safe v = ap (λ (n : ℕ). take n behind.kept) k.synced ∙ ap (take v.synced) k.kept ∙ take-append-le v.synced v.kept (e ∷ []) within in
    let all : log.kept ++ bytes ≡ all_written w (v.kept ++ e ∷ [])
    = ap (λ (x : List ℕ). x ++ bytes) s.kept ∙ ap (λ (x : Writing). all_written w v.kept ++ written x e) s.writer ∙ sym (written_more w v.kept e) in (
      subst (λ (x : Item). Stands w behind (log_after log x)) (sym r.is_kept) (record {
        writer = k.writer ∙ ap (λ (x : Writing). W.after x e) s.writer ∙ sym (writer_more w v.kept e) ∙ ap (writer_behind w) (sym k.kept);
        kept = all ∙ ap (all_written w) (sym k.kept);
        synced = s.synced ∙ ap (all_written w) (sym same);
        within = omega arith;
        read = subst (EachIs IsRead) (sym k.kept) (each_append IsRead v.kept (e ∷ []) s.read (r.read, tt));
      }),
      grows_same v behind same,
    )

goes_syncs : (w : Writing) (v behind : View) (item : Item) (log : Log) → Syncs v item behind → Stands w v log → Goes w v behind (log_after log item)
goes_syncs w v behind item log r s =
    let now : View = record v { synced = length v.kept } in
    let all : safe now ≡ v.kept = take_all (length v.kept) v.kept (omega arith) in
    let stands : Stands w now (record { kept = log.kept; synced = log.kept })
    = record { writer = s.writer; kept = s.kept; synced = s.kept ∙ ap (all_written w) (sym all); within = omega arith; read = s.read } in
    let more : Grows v now = (drop v.synced v.kept, all ∙ sym (take-append-drop v.synced v.kept)) in
    subst (λ (x : View). Goes w v x (log_after log item)) (sym r.view) (subst (λ (x : Item). Stands w now (log_after log x)) (sym r.is_synced) stands, more)

goes : (w : Writing) (v behind : View) (item : Item) (log : Log) → Moves v item behind → Stands w v log → Goes w v behind (log_after log item)
goes w v behind item log (inl r) s = goes_rests w v behind item log r s
goes w v behind item log (inr (inl r)) s = goes_adds w v behind item log r s
goes w v behind item log (inr (inr r)) s = goes_syncs w v behind item log r s

goes_all : (w : Writing) (v : View) (log : Log) (items : List Item) → are_allowed v items ≡ true → Stands w v log → Goes w v (view_after v items) (fold log_after log items)
goes_all w v log [] h s = (s, grows_same v v refl)
goes_all w v log (item ∷ items) h s =
    let p = and_parts _ _ h in
    let one = goes w v (after v item) item log (moves v item p.0) s in
    let rest = goes_all w (after v item) (log_after log item) items p.1 one.0 in
    (rest.0, (one.1.0 ++ rest.1.0, rest.1.1 ∙ ap (λ (x : List Entry). x ++ rest.1.0) one.1.1 ∙ append_assoc (safe v) one.1.0 rest.1.0))

-- before the first item nothing is kept
stands_first : (s : Setting) → Stands (fresh s.game.id s.me) (start s) (record { kept = []; synced = [] })
stands_first s = record { writer = refl; kept = refl; synced = refl; within = omega arith; read = tt }

pub stands : (s : Setting) (items : List Item) → IsHistory s items → Stands (fresh s.game.id s.me) (view_of s items) (log_in items)
stands s items h = (goes_all (fresh s.game.id s.me) (start s) (record { kept = []; synced = [] }) items h (stands_first s)).0

-- the bytes up to the last sync are the log of the entries that it found
pub synced_bytes : (s : Setting) (items : List Item) → IsHistory s items → synced_in items ≡ log_bytes s.game.id s.me (safe (view_of s items))
synced_bytes s items h = (stands s items h).synced ∙ log_written s.game.id s.me (safe (view_of s items))

pub read_kept : (s : Setting) (items : List Item) → IsHistory s items → EachIs IsRead (view_of s items).kept
read_kept s items h = (stands s items h).read

view_further : (v : View) (items more : List Item) → view_after v (items ++ more) ≡ view_after (view_after v items) more
view_further v [] more = refl
view_further v (item ∷ items) more = view_further (after v item) items more

-- what a sync found at some moment, a later one found too
pub safe_grows : (s : Setting) (items more : List Item) → IsHistory s (items ++ more) → Grows (view_of s items) (view_of s (items ++ more))
safe_grows s items more h =
    let w : Writing = fresh s.game.id s.me in
    let before = stands s items (prefixes s items more h) in
    let r = (goes_all w (view_of s items) (log_in items) more (behind (start s) items more h) before).1 in
    subst (Grows (view_of s items)) (sym (view_further (start s) items more)) r
