-- Over: from the first sync on, the entries taken over are the first ones that a sync found.
use Rattle.std.proofs.Common.{◌≡◌, ◌⊎◌, inl, inr, ℕ, ◌≤◌, true, false, refl, sym, ap, subst, ◌∙◌, List, [], ◌∷◌, ◌++◌, arith, length, take, length-append, append_assoc, append-nil}
use Rattle.std.specs.Prelude.{Bool, ◌&&◌, ◌||◌}
use Rattle.std.proofs.lemmas.Bool.{and_parts, eqb-true, false≢true, or_right}
use Rattle.std.proofs.lemmas.List.{take-append-le, take_all}
use Rattle.definitions.specs.declared.logs.Entry.{Entry}
use Rattle.definitions.specs.Honest.{IsHonest}
use Rattle.session_log.specs.Spelling.{log_bytes}
use Rattle.socket_station.specs.Items.{Item}
use Rattle.socket_station.specs.Moved.{synced_in}
use Rattle.loop_rules.specs.Settings.{Setting}
use Rattle.loop_rules.specs.Views.{View, start}
use Rattle.peer_rules.specs.Phases.{is_running, is_logged}
use Rattle.loop_rules.specs.Rules.{is_over_kept}
use Rattle.loop_rules.specs.After.{after, view_after, view_of}
use Rattle.loop_rules.specs.Histories.{are_allowed, IsHistory}
use Rattle.peer_command.proofs.Moves.{Moves, moves}
use Rattle.peer_command.proofs.Synced.{safe, synced_bytes}
use Rattle.loop_rules.proofs.Fair.{Fair, fair_item, fair_first}

-- these entries begin with those taken over
abbrev pub Begins : Setting → List Entry → Type 0
Begins s es = (rest : List Entry) × (es ≡ s.over ++ rest)

-- while the loop listens, the log begins with the entries taken over; and so it does as far as a sync found it, once there was one
record Over (s : Setting) (v : View) : Type 0 where
  running : is_running v.phase ≡ true → Begins s v.kept
  within : v.synced ≤ length v.kept
  synced : (v.synced ≡ 0) ⊎ Begins s (safe v)

begins_same : (s : Setting) (es fs : List Entry) → fs ≡ es → Begins s es → Begins s fs
begins_same s es fs same b = (b.0, same ∙ b.1)

begins_more : (s : Setting) (es : List Entry) (e : Entry) → Begins s es → Begins s (es ++ e ∷ [])
begins_more s es e b = (b.0 ++ e ∷ [], ap (λ (x : List Entry). x ++ e ∷ []) b.1 ∙ append_assoc s.over b.0 (e ∷ []))

-- as many entries are kept as are taken over, and these go on with them
all_kept : (kept over rest : List Entry) → over ≡ kept ++ rest → length kept ≡ length over → kept ≡ over ++ []
all_kept kept over [] same many = sym (same ∙ append-nil kept) ∙ sym (append-nil over)
all_kept kept over (e ∷ rest) same many = (let long = ap length same in let both = length-append kept (e ∷ rest) in absurd (omega arith))

begins_logged : (s : Setting) (v : View) → (is_logged v.phase && is_over_kept v) ≡ true → Fair s v → Begins s v.kept
begins_logged s v h fair =
    let both = and_parts _ _ h in
    let early = fair.2 (or_right _ _ both.0) in
    let many : length v.kept ≡ length s.over = eqb-true _ _ both.1 ∙ ap (λ (x : Setting). length x.over) fair.0 in
    ([], all_kept v.kept s.over early.0 early.1 many)

begins_kept : (s : Setting) (v : View) (b : Bool) → is_running v.phase ≡ b → (b || (is_logged v.phase && is_over_kept v)) ≡ true → Fair s v → Over s v → Begins s v.kept
begins_kept s v true is h fair o = o.running is
begins_kept s v false is h fair o = begins_logged s v h fair

over_item : (s : Setting) (v w : View) (item : Item) → Moves v item w → Fair s v → Over s v → Over s w
over_item s v w item (inl m) fair o =
    let within = o.within in
    let place = m.synced in
    let many = ap (λ (x : List Entry). length x) m.kept in
    let same : safe w ≡ safe v = ap (λ (n : ℕ). take n w.kept) m.synced ∙ ap (take v.synced) m.kept in
    record {
      running = λ e. begins_same s v.kept w.kept m.kept (begins_kept s v (is_running v.phase) refl (m.running e) fair o);
      within = omega arith;
      synced = elim o.synced [
        | inl none ↦ inl (m.synced ∙ none)
        | inr b ↦ inr (begins_same s (safe v) (safe w) same b)
      ];
    }
over_item s v w item (inr (inl m)) fair o =
    let k = m.keeps in
    let e = m.entry in
    let within = o.within in
    let place = k.synced in
    let many = ap (λ (x : List Entry). length x) k.kept in
    let longer = length-append v.kept (e ∷ []) in
    let same : safe w ≡ safe v = ap (λ (n : ℕ). take n w.kept) k.synced ∙ ap (take v.synced) k.kept ∙ take-append-le v.synced v.kept (e ∷ []) within in
    record {
      running = λ r. begins_same s (v.kept ++ e ∷ []) w.kept k.kept (begins_more s v.kept e (o.running (ap is_running (sym k.phase) ∙ r)));
      within = omega arith;
      synced = elim o.synced [
        | inl none ↦ inl (k.synced ∙ none)
        | inr b ↦ inr (begins_same s (safe v) (safe w) same b)
      ];
    }
over_item s v w item (inr (inr m)) fair o =
    let now : View = record v { synced = length v.kept } in
    let kept = begins_kept s v (is_running v.phase) refl m.has fair o in
    let all : safe now ≡ v.kept = take_all (length v.kept) v.kept (omega arith) in
    subst (Over s) (sym m.view) (record { running = o.running; within = omega arith; synced = inr (begins_same s v.kept (safe now) all kept) })

over_all : (s : Setting) (v : View) (items : List Item) → IsHonest s.game s.me s.over → are_allowed v items ≡ true → Fair s v → Over s v → Over s (view_after v items)
over_all s v [] over h fair o = o
over_all s v (item ∷ items) over h fair o =
    let p = and_parts _ _ h in
    let m = moves v item p.0 in
    over_all s (after v item) items over p.1 (fair_item s v item over p.0 fair) (over_item s v (after v item) item m fair o)

-- no bytes were synced, or the entries that a sync found begin with those taken over
pub over_synced : (s : Setting) (items : List Item) → IsHonest s.game s.me s.over → IsHistory s items → (synced_in items ≡ []) ⊎ Begins s (safe (view_of s items))
over_synced s items over h =
    let o = over_all s (start s) items over h (fair_first s over) (record { running = λ e. absurd (false≢true e); within = omega arith; synced = inl refl }) in
    elim o.synced [
      | inl none ↦ inl (synced_bytes s items h ∙ ap (λ (n : ℕ). log_bytes s.game.id s.me (take n (view_of s items).kept)) none)
      | inr b ↦ inr b
    ]
