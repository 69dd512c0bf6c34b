-- Given: in each history frames alone are given on a socket, as they may be given there.
use Rattle.std.proofs.Common.{◌≡◌, ℕ, Bool, true, false, refl, sym, ap, subst, ◌∙◌, List, [], ◌∷◌, ◌++◌, append_assoc, append-nil, take, le_refl}
use Rattle.std.specs.Prelude.{Option, Some, None, ◌==◌, ◌||◌, map, if◌then◌else◌}
use Rattle.std.proofs.lemmas.Bool.{and_parts, eqb-true, false≢true}
use Rattle.std.proofs.lemmas.List.Sums.{fold-append}
use Rattle.definitions.specs.Lists.{EachIs}
use Rattle.definition_laws.specs.Members.{Has}
use Rattle.definition_laws.proofs.Members.{Has_middle}
use Rattle.wire_frames.specs.declared.frames.Frame.{Frame}
use Rattle.rosters.specs.declared.roster.Link.{Link}
use Rattle.socket_station.specs.declared.answers.Ready.{Ready}
use Rattle.socket_station.specs.declared.answers.Ready.TheVariants.{Opened, Socket as Seems}
use Rattle.socket_station.specs.declared.answers.Standing.{Standing}
use Rattle.socket_station.specs.declared.answers.Standing.TheVariants.{Fresh, Open, Closed}
use Rattle.socket_station.specs.Items.{Item, ListenCall, LogCall, DialCall, PollCall, ReadCall, WriteCall, KeepCall, SyncCall, Listening, LogBegun, Dialled, Polled, Took, Gave, ReadNotYet, WriteNotYet, Ended, Failed, Shut, Kept, Synced}
use Rattle.socket_station.specs.Moved.{Log, log_after, log_in, synced_in}
use Rattle.socket_station.specs.Standings.{opens, standing_after, standing_in, AreNew, OpensNew}
use Rattle.socket_station.specs.Laws.{is_opening}
use Rattle.socket_station.proofs.Histories.{standing-more}
use Rattle.socket_lines.specs.declared.line.Line.{Line}
use Rattle.socket_lines.specs.Seats.{new_seat}
use Rattle.loop_rules.specs.Settings.{Setting, last_place}
use Rattle.loop_rules.specs.Tables.{line_of}
use Rattle.loop_rules.specs.Views.{View, start, safe_frames}
use Rattle.loop_rules.specs.After.{after, view_of}
use Rattle.loop_rules.specs.Rules.{is_allowed, may_read_line, may_write_line}
use Rattle.loop_rules.specs.Histories.{IsHistory, are_allowed}
use Rattle.loop_rules.specs.Told.{LineStands, Differ, IsTold}
use Rattle.loop_rules.proofs.Kept.{kept_bytes_are_the_log}
use Rattle.loop_rules.proofs.Told.{setting_after, told_goes_on}
use Rattle.loop_laws.specs.Sockets.{dialled_for, SocketsAreNew}
use Rattle.loop_laws.specs.Speaking.{Speaks}
use Rattle.loop_laws.specs.Laws.{FramesAreGiven}
use Rattle.loop_laws.proofs.Bytes.{facts_in, facts_given, facts_dialled, facts_came}
use Rattle.loop_laws.proofs.Finds.{line_in, IfLine}
use Rattle.loop_laws.proofs.Speakers.{Facts, no_facts, Told, Said}
use Rattle.loop_laws.proofs.Hearing.{Linked}
use Rattle.loop_laws.proofs.Owns.{SyncedSo, log_kept_in, owns_after, synced_after}
use Rattle.loop_laws.proofs.Steps.{facts_after, links_after, line_after, line_owns, said_after, said_owns}

-- ---- after one more item

pub record At (s : Setting) (n : ℕ) (v : View) (facts : Facts) : Type 0 where
  pub setting : v.setting ≡ s
  pub links : Linked (λ link. Has s.roster.links link) v.table.seats
  pub line : IfLine (Told s (safe_frames v) facts) (line_in n v.table.lines)
  pub said : Said s (safe_frames v) facts

at_after : (n : ℕ) (v : View) (facts : Facts) (item : Item) → is_allowed v item ≡ true → (is_opening item n ≡ true → facts ≡ no_facts) → Differ v.table.lines → At v.setting n v facts →
    At v.setting n (after v item) (facts_after n facts item)
at_after n v facts item h new differ k =
    let w = after v item in
    record {
      setting = setting_after v item;
      links = links_after v item k.links;
      line = line_owns v.setting (safe_frames v) (safe_frames w) (facts_after n facts item) (line_in n w.table.lines) (owns_after v item) (line_after v facts n k.links differ k.line item h new);
      said = said_owns v.setting (safe_frames v) (safe_frames w) (facts_after n facts item) (owns_after v item) (said_after v facts n k.links differ k.line item h k.said);
    }

at_next : (s : Setting) (n : ℕ) (v : View) (facts : Facts) (item : Item) → is_allowed v item ≡ true → (is_opening item n ≡ true → facts ≡ no_facts) → Differ v.table.lines → At s n v facts →
    At s n (after v item) (facts_after n facts item)
at_next s n v facts item h new differ k =
    subst (λ (z : Setting). At z n (after v item) (facts_after n facts item)) k.setting (at_after n v facts item h new differ (subst (λ (z : Setting). At z n v facts) (sym k.setting) k))

-- ---- sockets that were never used

opened_fresh : (standing : ℕ → Standing) (list : List Ready) (n : ℕ) → AreNew standing list → opens list n ≡ true → standing n ≡ Fresh
opened_fresh standing [] n new e = absurd (false≢true e)
opened_fresh standing (Opened m ∷ list) n new e = go (m == n) refl e (opened_fresh standing list n new.2)
  where
    go : (b : Bool) → (m == n) ≡ b → (b || opens list n) ≡ true → (opens list n ≡ true → standing n ≡ Fresh) → standing n ≡ Fresh
    go true q x more = ap standing (sym (eqb-true m n q)) ∙ new.0
    go false q x more = more x
opened_fresh standing (Seems m ∷ list) n new e = opened_fresh standing list n new e

-- what an item opens was never used
pub opening_fresh : (items : List Item) (item : Item) (n : ℕ) → OpensNew items item → is_opening item n ≡ true → standing_in items n ≡ Fresh
opening_fresh items (LogBegun name) n new e = absurd (false≢true e)
opening_fresh items (Listening addr) n new e = absurd (false≢true e)
opening_fresh items (Dialled m q addr) n new e = ap (standing_in items) (sym (eqb-true m n e)) ∙ new
opening_fresh items (Polled list) n new e = opened_fresh (standing_in items) list n new e
opening_fresh items (Took m bytes) n new e = absurd (false≢true e)
opening_fresh items (Gave m bytes) n new e = absurd (false≢true e)
opening_fresh items (ReadNotYet m) n new e = absurd (false≢true e)
opening_fresh items (WriteNotYet m) n new e = absurd (false≢true e)
opening_fresh items (Ended m) n new e = absurd (false≢true e)
opening_fresh items (Shut m) n new e = absurd (false≢true e)
opening_fresh items (Kept bytes) n new e = absurd (false≢true e)
opening_fresh items Synced n new e = absurd (false≢true e)
opening_fresh items (Failed call) n new e = absurd (false≢true e)

fresh_if : (b : Bool) (new old : Standing) → (new ≡ Fresh → ⊥) → (if b then new else old) ≡ Fresh → (b ≡ false) × (old ≡ Fresh)
fresh_if true new old n e = absurd (n e)
fresh_if false new old n e = (refl, e)

open_not : Open ≡ Fresh → ⊥
open_not e = cc

closed_not : Closed ≡ Fresh → ⊥
closed_not e = cc

-- what was never used was not before the item either
pub fresh_before : (n : ℕ) (old : Standing) (item : Item) → standing_after n old item ≡ Fresh → old ≡ Fresh
fresh_before n old (LogBegun name) e = e
fresh_before n old (Listening addr) e = e
fresh_before n old (Dialled m q addr) e = (fresh_if (m == n) Open old open_not e).1
fresh_before n old (Polled list) e = (fresh_if (opens list n) Open old open_not e).1
fresh_before n old (Took m bytes) e = e
fresh_before n old (Gave m bytes) e = e
fresh_before n old (ReadNotYet m) e = e
fresh_before n old (WriteNotYet m) e = e
fresh_before n old (Ended m) e = (fresh_if (m == n) Closed old closed_not e).1
fresh_before n old (Shut m) e = (fresh_if (m == n) Closed old closed_not e).1
fresh_before n old (Kept bytes) e = e
fresh_before n old Synced e = e
fresh_before n old (Failed (ListenCall addr)) e = e
fresh_before n old (Failed (LogCall name)) e = e
fresh_before n old (Failed (DialCall q addr)) e = e
fresh_before n old (Failed PollCall) e = e
fresh_before n old (Failed (ReadCall m)) e = (fresh_if (m == n) Closed old closed_not e).1
fresh_before n old (Failed (WriteCall m)) e = (fresh_if (m == n) Closed old closed_not e).1
fresh_before n old (Failed (KeepCall bytes)) e = e
fresh_before n old (Failed SyncCall) e = e

-- the line that is found stands as the items say
pub used_line : (items : List Item) (m : ℕ) (ls : List Line) (l : Line) → EachIs (LineStands items) ls → line_in m ls ≡ Some l → standing_in items m ≡ Fresh → ⊥
used_line items m [] l each e f = cc
used_line items m (x ∷ ls) l each e f = go (x.socket == m) refl e (λ w. used_line items m ls l each.1 w f)
  where
    go : (b : Bool) → (x.socket == m) ≡ b → (if b then Some x else line_in m ls) ≡ Some l → (line_in m ls ≡ Some l → ⊥) → ⊥
    go true q w more = each.0.used (ap (standing_in items) (eqb-true x.socket m q) ∙ f)
    go false q w more = more w

pub reads_line : (v : View) (o : Option Line) → may_read_line v o ≡ true → (l : Line) × (o ≡ Some l)
reads_line v None h = absurd (false≢true h)
reads_line v (Some l) h = (l, refl)

pub writes_line : (v : View) (o : Option Line) → may_write_line v o ≡ true → (l : Line) × (o ≡ Some l)
writes_line v None h = absurd (false≢true h)
writes_line v (Some l) h = (l, refl)

same_if : (b : Bool) (x y : Facts) → (b ≡ true → ⊥) → (if b then x else y) ≡ y
same_if true x y n = absurd (n refl)
same_if false x y n = refl

-- of a socket that was never used nothing is said
still_none : (items : List Item) (v : View) (n : ℕ) (facts : Facts) (item : Item) → is_allowed v item ≡ true → EachIs (LineStands items) v.table.lines → standing_in items n ≡ Fresh →
    standing_after n (standing_in items n) item ≡ Fresh → facts_after n facts item ≡ facts
still_none items v n facts (LogBegun name) h each f e = refl
still_none items v n facts (Listening addr) h each f e = refl
still_none items v n facts (Dialled m q addr) h each f e =
    same_if (m == n) _ facts (λ b. false≢true (sym (fresh_if (m == n) Open (standing_in items n) open_not e).0 ∙ b))
still_none items v n facts (Polled list) h each f e = refl
still_none items v n facts (Took m bytes) h each f e =
    let found = reads_line v (line_of v.table m) (and_parts _ _ (and_parts _ _ h).0).0 in
    same_if (m == n) _ facts (λ b. used_line items m v.table.lines found.0 each found.1 (ap (standing_in items) (eqb-true m n b) ∙ f))
still_none items v n facts (Gave m bytes) h each f e =
    let found = writes_line v (line_of v.table m) (and_parts _ _ h).0 in
    same_if (m == n) _ facts (λ b. used_line items m v.table.lines found.0 each found.1 (ap (standing_in items) (eqb-true m n b) ∙ f))
still_none items v n facts (ReadNotYet m) h each f e = refl
still_none items v n facts (WriteNotYet m) h each f e = refl
still_none items v n facts (Ended m) h each f e = refl
still_none items v n facts (Shut m) h each f e = refl
still_none items v n facts (Kept bytes) h each f e = refl
still_none items v n facts Synced h each f e = refl
still_none items v n facts (Failed call) h each f e = refl

-- ---- the whole history

pub record Knows (s : Setting) (n : ℕ) (items : List Item) : Type 0 where
  pub told : IsTold items (view_of s items)
  pub empty : standing_in items n ≡ Fresh → facts_in n items ≡ no_facts
  pub at : At s n (view_of s items) (facts_in n items)
  pub synced : SyncedSo s.game.id s.me (view_of s items) (synced_in items)

-- so it is after a view of the items
record KnowsIn (s : Setting) (n : ℕ) (items : List Item) (v : View) (facts : Facts) (log : Log) : Type 0 where
  told : IsTold items v
  empty : standing_in items n ≡ Fresh → facts ≡ no_facts
  at : At s n v facts
  synced : SyncedSo s.game.id s.me v log.synced

knows_next : (s : Setting) (n : ℕ) (items : List Item) (item : Item) → is_allowed (view_of s items) item ≡ true → OpensNew items item → Knows s n items →
    KnowsIn s n (items ++ item ∷ []) (after (view_of s items) item) (facts_after n (facts_in n items) item) (log_after (log_in items) item)
knows_next s n items item h new k =
    let v = view_of s items in
    let facts = facts_in n items in
    let history : IsHistory s items = subst (λ (z : Setting). IsHistory z items) k.at.setting k.told.allowed in
    record {
      told = told_goes_on items v item k.told new h;
      empty = λ e.
          let now = sym (standing-more items item n) ∙ e in
          let old = fresh_before n (standing_in items n) item now in
          still_none items v n facts item h k.told.stand old now ∙ k.empty old;
      at = at_next s n v facts item h (λ o. k.empty (opening_fresh items item n new o)) k.told.differ k.at;
      synced = synced_after s.game.id s.me v (log_in items) item (log_kept_in items ∙ kept_bytes_are_the_log s items history) k.synced;
    }

knows_more : (s : Setting) (n : ℕ) (items : List Item) (item : Item) → is_allowed (view_of s items) item ≡ true → OpensNew items item → Knows s n items → Knows s n (items ++ item ∷ [])
knows_more s n items item h new k =
    let one = item ∷ [] in
    let view : after (view_of s items) item ≡ view_of s (items ++ one) = sym (fold-append after (start s) items one) in
    let facts : facts_after n (facts_in n items) item ≡ facts_in n (items ++ one) = sym (fold-append (facts_after n) no_facts items one) in
    let log : log_after (log_in items) item ≡ log_in (items ++ one) = sym (fold-append log_after (record { kept = []; synced = [] }) items one) in
    let a = knows_next s n items item h new k in
    let b = subst (λ (v : View). KnowsIn s n (items ++ one) v (facts_after n (facts_in n items) item) (log_after (log_in items) item)) view a in
    let c = subst (λ (x : Facts). KnowsIn s n (items ++ one) (view_of s (items ++ one)) x (log_after (log_in items) item)) facts b in
    let d = subst (λ (x : Log). KnowsIn s n (items ++ one) (view_of s (items ++ one)) (facts_in n (items ++ one)) x) log c in
    record { told = d.told; empty = d.empty; at = d.at; synced = d.synced }

knows_all : (s : Setting) (n : ℕ) (before items : List Item) → are_allowed (view_of s before) items ≡ true → SocketsAreNew (before ++ items) → Knows s n before → Knows s n (before ++ items)
knows_all s n before [] h new k = subst (Knows s n) (sym (append-nil before)) k
knows_all s n before (item ∷ items) h new k =
    let p = and_parts _ _ h in
    let same = append_assoc before (item ∷ []) items in
    let view : after (view_of s before) item ≡ view_of s (before ++ item ∷ []) = sym (fold-append after (start s) before (item ∷ [])) in
    subst (Knows s n) same
    (knows_all s n (before ++ item ∷ []) items (subst (λ (x : View). are_allowed x items ≡ true) view p.1)
    (subst SocketsAreNew (sym same) new) (knows_more s n before item p.0 (new before items item refl) k))

each_link : (most : ℕ) (all front links : List Link) → all ≡ front ++ links → EachIs (λ c. Has all c.link) (map (new_seat most) links)
each_link most all front [] e = tt
each_link most all front (x ∷ links) e =
    (subst (λ (y : List Link). Has y x) (sym e) (Has_middle front links x), each_link most all (front ++ x ∷ []) links (e ∙ sym (append_assoc front (x ∷ []) links)))

knows_none : (s : Setting) (n : ℕ) → Knows s n []
knows_none s n = record {
  told = record { allowed = refl; shown = refl; stand = tt; differ = tt };
  empty = λ e. refl;
  at = record {
    setting = refl;
    links = each_link (last_place s) s.roster.links [] s.roster.links refl;
    line = tt;
    said = record { frames = []; unsent = []; given = refl; speaks = tt };
  };
  synced = (kept_bytes_are_the_log s [] refl, le_refl 0);
}

-- so it is after each history
pub knows_in : (s : Setting) (n : ℕ) (items : List Item) → SocketsAreNew items → IsHistory s items → Knows s n items
knows_in s n items new h = knows_all s n [] items h new (knows_none s n)

pub frames_are_given : FramesAreGiven
frames_are_given s items n new h =
    let v = view_of s items in
    let k = knows_in s n items new h in
    let said = k.at.said in
    record {
      log = take v.synced v.kept;
      frames = said.frames;
      unsent = said.unsent;
      synced = k.synced.0;
      given = ap (λ (x : List ℕ). x ++ said.unsent) (sym (facts_given n items)) ∙ said.given;
      speaks = subst (λ (x : List Frame). Speaks s (safe_frames v) (dialled_for n items) x said.frames) (facts_came n items)
          (subst (λ (x : List ℕ). Speaks s (safe_frames v) x (facts_in n items).came said.frames) (facts_dialled n items) said.speaks);
    }
