-- Told: what a station tells goes on by each item that may come next.
use Rattle.std.proofs.Common.{◌≡◌, ℕ, Bool, true, false, refl, sym, ap, subst, ◌∙◌, List, [], ◌∷◌, ◌++◌, append-nil, append_assoc}
use Rattle.std.specs.Prelude.{Option, Some, None, ◌==◌, ◌||◌, map, not, nat_lt, filter, length, if◌then◌else◌}
use Rattle.std.specs.List.{fold}
use Rattle.std.proofs.lemmas.Bool.{eqb-true, eq-eqb, false≢true, or_parts}
use Rattle.std.proofs.lemmas.List.Sums.{fold-append}
use Rattle.plain_lemmas.proofs.Each.{each_push}
use Rattle.definitions.specs.Lists.{EachIs}
use Rattle.socket_station.specs.declared.answers.Ready.{Ready}
use Rattle.socket_station.specs.declared.answers.Ready.TheVariants.{Opened, Socket as Seems}
use Rattle.socket_station.specs.declared.answers.Standing.{Standing}
use Rattle.socket_station.specs.declared.answers.Standing.TheVariants.{Fresh, Open, Closed}
use Rattle.socket_station.specs.Items.{Item, ListenCall, LogCall, DialCall, PollCall, ReadCall, WriteCall, KeepCall, SyncCall, Listening, LogBegun, Dialled, Polled, Took, Gave, ReadNotYet, WriteNotYet, Ended, Failed, Shut, Kept, Synced}
use Rattle.socket_station.proofs.Histories.{standing-more}
use Rattle.socket_station.specs.Standings.{opens, standing_after, standing_in, AreNew, OpensNew}
use Rattle.wire_frames.specs.declared.frames.Frame.{Frame}
use Rattle.wire_frames.specs.declared.frames.Frame.TheVariants.{Hello, Turn, Want}
use Rattle.wire_frames.specs.declared.frames.FedWhat.{FedWhat}
use Rattle.wire_frames.specs.declared.frames.FedWhat.TheVariants as what
use Rattle.wire_frames.specs.Reading.{Reading, Step, fed_step}
use Rattle.socket_lines.specs.declared.limits.TheConstants.{MOST_ACCEPTED}
use Rattle.socket_lines.specs.declared.line.Line.{Line}
use Rattle.socket_lines.specs.Lines.{accepted_line, closed, quieted, blocked, doomed, woken}
use Rattle.loop_rules.specs.Tables.{in_lines}
use Rattle.loop_rules.specs.Hearing.{ousted}
use Rattle.loop_rules.specs.Told.{LineStands, IsNotIn, Differ}
use Rattle.loop_rules.proofs.Alike.{Same, Alike, same, alike, alike_at, alike_map, alike_then, each_alike, differ_alike, closed_same, quieted_same, blocked_same, doomed_same, woken_same, ousted_same}
use Rattle.loop_rules.proofs.Told.{IsStill, Closes, StandsBehind, differ_last, differ_open, each_still, kept_open, opened_by, with_open}
use Rattle.socket_list.specs.Sockets.{Sockets, at_line, fed_line, gave_line, greeted_line, line_of, listed, rested, with_name_free}
use Rattle.watch_rules.specs.Views.{Setting, View, start}
use Rattle.watch_rules.specs.Hearing.{answer_to, greeted, heard, heard_first, named, names, to_shut, took_by, took_on, took_with, with_sockets}
use Rattle.watch_rules.specs.After.{after, view_after, view_of}
use Rattle.watch_rules.specs.Rules.{IsAllowed, is_allowed}
use Rattle.watch_rules.specs.Histories.{AreTold, are_allowed}
use Rattle.watch_rules.specs.Told.{IsTold}
use Rattle.watch_rules.specs.Laws.{ToldGoesOn}
use Rattle.watch_rules.proofs.Prefixes.{added}

eqb-sym : (m n : ℕ) → (m == n) ≡ (n == m)
eqb-sym m n = go (m == n) (n == m) refl refl
  where
    go : (a b : Bool) → (m == n) ≡ a → (n == m) ≡ b → a ≡ b
    go true true p q = refl
    go false false p q = refl
    go true false p q = sym (eq-eqb n m (sym (eqb-true m n p))) ∙ q
    go false true p q = sym p ∙ eq-eqb m n (sym (eqb-true n m q))

stands_closed : (items : List Item) (item : Item) (s : ℕ) (l : Line) → Closes s item → LineStands items l → LineStands (items ++ item ∷ []) (if l.socket == s then closed l else l)
stands_closed items item s l c st = go (l.socket == s) refl
  where
    after_it : standing_in (items ++ item ∷ []) l.socket ≡ (if s == l.socket then Closed else standing_in items l.socket)
    after_it = standing-more items item l.socket ∙ c l.socket (standing_in items l.socket)

    not_fresh : (b : Bool) → (if b then Closed else standing_in items l.socket) ≡ Fresh → ⊥
    not_fresh true e = cc
    not_fresh false e = st.used e

    used : standing_in (items ++ item ∷ []) l.socket ≡ Fresh → ⊥
    used e = not_fresh (s == l.socket) (sym after_it ∙ e)

    go : (b : Bool) → (l.socket == s) ≡ b → LineStands (items ++ item ∷ []) (if b then closed l else l)
    go true e = record { used = used; opened = λ o. absurd (false≢true o) }
    go false e = record { used = used; opened = λ o. after_it ∙ ap (λ (b : Bool). if b then Closed else standing_in items l.socket) (eqb-sym s l.socket ∙ e) ∙ st.opened o }

each_closed : (items : List Item) (item : Item) (s : ℕ) (ls : List Line) → Closes s item → EachIs (LineStands items) ls → EachIs (LineStands (items ++ item ∷ [])) (in_lines s closed ls)
each_closed items item s [] c e = tt
each_closed items item s (l ∷ ls) c e = (stands_closed items item s l c e.0, each_closed items item s ls c e.1)

-- ---- polls

each_same : (f g : ℕ → Standing) → ((n : ℕ) → f n ≡ g n) → (ls : List Line) → EachIs (StandsBehind f) ls → EachIs (StandsBehind g) ls
each_same f g k [] e = tt
each_same f g k (l ∷ ls) e = ((λ q. e.0.0 (k l.socket ∙ q), λ o. sym (k l.socket) ∙ e.0.1 o), each_same f g k ls e.1)

opened_then : (s : ℕ) (list : List Ready) (standing : ℕ → Standing) (n : ℕ) → opened_by list (with_open s standing) n ≡ opened_by (Opened s ∷ list) standing n
opened_then s list standing n = go (s == n) (opens list n)
  where
    go : (a b : Bool) → (if b then Open else (if a then Open else standing n)) ≡ (if a || b then Open else standing n)
    go true true = refl
    go true false = refl
    go false true = refl
    go false false = refl

new_after : (standing : ℕ → Standing) (s : ℕ) (list : List Ready) → opens list s ≡ false → AreNew standing list → AreNew (with_open s standing) list
new_after standing s [] o e = tt
new_after standing s (Opened n ∷ list) o e =
    let p = or_parts (n == s) (opens list s) o in
    (ap (λ (b : Bool). if b then Open else standing n) (eqb-sym s n ∙ p.0) ∙ e.0, e.1, new_after standing s list p.1 e.2)
new_after standing s (Seems n ∷ list) o e = new_after standing s list o e

-- a line that was used is not the one that opens
each_with_open : (standing : ℕ → Standing) (s : ℕ) (wrong : Bool) (ls : List Line) → standing s ≡ Fresh → EachIs (StandsBehind standing) ls →
    EachIs (StandsBehind (with_open s standing)) (ls ++ accepted_line s wrong ∷ [])
each_with_open standing s wrong [] f e =
    let eq : with_open s standing s ≡ Open = ap (λ (b : Bool). if b then Open else standing s) (eq-eqb s s refl) in
    ((λ x. (let y : Open ≡ Fresh = sym eq ∙ x in cc), λ o. eq), tt)
each_with_open standing s wrong (l ∷ ls) f e = (go (s == l.socket) refl, each_with_open standing s wrong ls f e.1)
  where
    go : (b : Bool) → (s == l.socket) ≡ b → StandsBehind (with_open s standing) l
    go true q = absurd (e.0.0 (ap standing (sym (eqb-true s l.socket q)) ∙ f))
    go false q =
        let eq : with_open s standing l.socket ≡ standing l.socket = ap (λ (b : Bool). if b then Open else standing l.socket) q in
        (λ x. e.0.0 (sym eq ∙ x), λ o. eq ∙ e.0.1 o)

new_to : (standing : ℕ → Standing) (s : ℕ) (ls : List Line) → standing s ≡ Fresh → EachIs (StandsBehind standing) ls → IsNotIn s ls
new_to standing s [] f e = tt
new_to standing s (l ∷ ls) f e = (λ q. e.0.0 (ap standing q ∙ f), new_to standing s ls f e.1)

stands_same : (standing : ℕ → Standing) (l m : Line) → Same l m → StandsBehind standing l → StandsBehind standing m
stands_same standing l m k e = (λ q. e.0 (ap standing (sym k.socket) ∙ q), λ o. ap standing k.socket ∙ e.1 (k.opened o))

-- the sockets that a list opens are new to the lines and to one another
each_listed : (standing : ℕ → Standing) (list : List Ready) (t : Sockets) → AreNew standing list → EachIs (StandsBehind standing) t.lines → Differ t.lines →
    EachIs (StandsBehind (opened_by list standing)) (fold listed t list).lines × Differ (fold listed t list).lines
each_listed standing [] t new e d = (e, d)
each_listed standing (Opened s ∷ list) t new e d =
    let wrong = not (nat_lt t.accepted MOST_ACCEPTED) in
    let u = listed t (Opened s) in
    let r = each_listed (with_open s standing) list u (new_after standing s list new.1 new.2) (each_with_open standing s wrong t.lines new.0 e)
    (differ_last t.lines (accepted_line s wrong) (new_to standing s t.lines new.0 e) d) in
    (each_same (opened_by list (with_open s standing)) (opened_by (Opened s ∷ list) standing) (opened_then s list standing) (fold listed u list).lines r.0, r.1)
each_listed standing (Seems s ∷ list) t new e d =
    let u = listed t (Seems s) in
    let a = alike_at s woken woken_same t.lines in
    each_listed standing list u new (each_alike (StandsBehind standing) (stands_same standing) t.lines u.lines a e) (differ_alike t.lines u.lines a d)

each_stands : (items : List Item) (ls : List Line) → EachIs (LineStands items) ls → EachIs (StandsBehind (standing_in items)) ls
each_stands items [] e = tt
each_stands items (l ∷ ls) e = ((e.0.used, e.0.opened), each_stands items ls e.1)

each_in : (items : List Item) (list : List Ready) (ls : List Line) → EachIs (StandsBehind (opened_by list (standing_in items))) ls → EachIs (LineStands (items ++ Polled list ∷ [])) ls
each_in items list [] e = tt
each_in items list (l ∷ ls) e =
    let eq = standing-more items (Polled list) l.socket in
    (record { used = λ q. e.0.0 (sym eq ∙ q); opened = λ o. eq ∙ e.0.1 o }, each_in items list ls e.1)

-- ---- the lines after bytes that came

-- the view has the same setting and phase, and its lines are alike
pub record KeepsLines (v w : View) : Type 0 where
  pub setting : w.setting ≡ v.setting
  pub phase : w.phase ≡ v.phase
  pub lines : Alike v.sockets.lines w.sockets.lines

pub fed_same : (count : ℕ) (r : Reading) (l : Line) → Same l (fed_line count r l)
fed_same count r l = record { socket = refl; opened = λ e. e; dialled = refl; wrong = λ e. e }

pub greeted_same : (q : ℕ) (f : Frame) (l : Line) → Same l (greeted_line q f l)
greeted_same q f l = record { socket = refl; opened = λ e. e; dialled = refl; wrong = λ e. e }

pub gave_same : (count : ℕ) (l : Line) → Same l (gave_line count l)
gave_same count l = record { socket = refl; opened = λ e. e; dialled = refl; wrong = λ e. e }

shut_keeps : (s : ℕ) (v : View) → KeepsLines v (to_shut s v)
shut_keeps s v = record { setting = refl; phase = refl; lines = alike_at s doomed doomed_same v.sockets.lines }

named_keeps : (v : View) (s q : ℕ) → KeepsLines v (named v s q)
named_keeps v s q =
    let t = with_name_free q v.sockets in
    record {
      setting = refl;
      phase = refl;
      lines = alike_then v.sockets.lines t.lines (in_lines s (greeted_line q (answer_to v q)) t.lines) (alike_map (ousted q) (ousted_same q) v.sockets.lines) (alike_at s (greeted_line q (answer_to v q)) (greeted_same q (answer_to v q)) t.lines);
    }

first_keeps : (v : View) (s : ℕ) (f : Frame) → KeepsLines v (heard_first v s f)
first_keeps v s (Hello id q pass next) = go (names v id q pass)
  where
    go : (b : Bool) → KeepsLines v (if b then named v s q else to_shut s v)
    go true = named_keeps v s q
    go false = shut_keeps s v
first_keeps v s (Turn f) = shut_keeps s v
first_keeps v s (Want place) = shut_keeps s v

pub heard_keeps : (v : View) (s : ℕ) (w : FedWhat) → KeepsLines v (heard v s w)
heard_keeps v s what.More = record { setting = refl; phase = refl; lines = alike v.sockets.lines }
heard_keeps v s (what.Bad place) = shut_keeps s v
heard_keeps v s (what.Whole f) = first_keeps v s f

greeted_keeps : (v : View) (s count : ℕ) (step : Step) → KeepsLines v (greeted v s count step)
greeted_keeps v s count step =
    let u = with_sockets (at_line s (fed_line count step.reader) v.sockets) v in
    let h = heard_keeps u s step.fed.what in
    record {
      setting = h.setting;
      phase = h.phase;
      lines = alike_then v.sockets.lines u.sockets.lines (greeted v s count step).sockets.lines (alike_at s (fed_line count step.reader) (fed_same count step.reader) v.sockets.lines) h.lines;
    }

pub by_keeps : (v : View) (s : ℕ) (bytes : List ℕ) (l : Line) (o : Option ℕ) → KeepsLines v (took_by v s bytes l o)
by_keeps v s bytes l None = greeted_keeps v s (length bytes) (fed_step l.reader bytes)
by_keeps v s bytes l (Some q) = record { setting = refl; phase = refl; lines = alike v.sockets.lines }

took_keeps : (v : View) (s : ℕ) (bytes : List ℕ) (o : Option Line) → KeepsLines v (took_with v s bytes o)
took_keeps v s bytes None = record { setting = refl; phase = refl; lines = alike v.sockets.lines }
took_keeps v s bytes (Some l) = by_keeps v s bytes l l.name

pub setting_after : (v : View) (item : Item) → (after v item).setting ≡ v.setting
setting_after v (LogBegun name) = refl
setting_after v (Listening addr) = refl
setting_after v (Dialled s q addr) = refl
setting_after v (Polled list) = refl
setting_after v (Took s bytes) = (took_keeps v s bytes (line_of v.sockets s)).setting
setting_after v (Gave s bytes) = refl
setting_after v (ReadNotYet s) = refl
setting_after v (WriteNotYet s) = refl
setting_after v (Ended s) = refl
setting_after v (Shut s) = refl
setting_after v (Kept bytes) = refl
setting_after v Synced = refl
setting_after v (Failed (ListenCall addr)) = refl
setting_after v (Failed (LogCall name)) = refl
setting_after v (Failed (DialCall q addr)) = refl
setting_after v (Failed PollCall) = refl
setting_after v (Failed (ReadCall s)) = refl
setting_after v (Failed (WriteCall s)) = refl
setting_after v (Failed (KeepCall bytes)) = refl
setting_after v (Failed SyncCall) = refl

-- ---- the lines after an item stand, and their sockets differ

abbrev pub StandsAfter : List Item → View → Item → Type 0
StandsAfter items v item = EachIs (LineStands (items ++ item ∷ [])) (after v item).sockets.lines × Differ (after v item).sockets.lines

still : (items : List Item) (v : View) (item : Item) → IsTold items v → IsStill item → Alike v.sockets.lines (after v item).sockets.lines → StandsAfter items v item
still items v item t k a = (each_still items item v.sockets.lines (after v item).sockets.lines k a t.stand, differ_alike v.sockets.lines (after v item).sockets.lines a t.differ)

closing : (items : List Item) (v : View) (item : Item) (s : ℕ) → IsTold items v → Closes s item → (after v item).sockets.lines ≡ in_lines s closed v.sockets.lines → StandsAfter items v item
closing items v item s t c e = (
  subst (λ (ls : List Line). EachIs (LineStands (items ++ item ∷ [])) ls) (sym e) (each_closed items item s v.sockets.lines c t.stand),
  subst Differ (sym e) (differ_alike v.sockets.lines (in_lines s closed v.sockets.lines) (alike_at s closed closed_same v.sockets.lines) t.differ),
)

polled : (items : List Item) (v : View) (list : List Ready) → IsTold items v → AreNew (standing_in items) list → StandsAfter items v (Polled list)
polled items v list t new =
    let u = rested v.sockets in
    let r = each_listed (standing_in items) list u new (each_stands items u.lines (kept_open (LineStands items) v.sockets.lines t.stand)) (differ_open v.sockets.lines t.differ) in
    (each_in items list (after v (Polled list)).sockets.lines r.0, r.1)

no_item : (items : List Item) (v : View) (item : Item) → false ≡ true → StandsAfter items v item
no_item items v item e = absurd (false≢true e)

stands_after : (items : List Item) (v : View) (item : Item) → IsTold items v → OpensNew items item → is_allowed v item ≡ true → StandsAfter items v item
stands_after items v (LogBegun name) t o a = no_item items v (LogBegun name) a
stands_after items v (Listening addr) t o a = still items v (Listening addr) t (λ n old. refl) (alike v.sockets.lines)
stands_after items v (Dialled s q addr) t o a = no_item items v (Dialled s q addr) a
stands_after items v (Polled list) t o a = polled items v list t o
stands_after items v (Took s bytes) t o a = still items v (Took s bytes) t (λ n old. refl) (took_keeps v s bytes (line_of v.sockets s)).lines
stands_after items v (Gave s bytes) t o a = still items v (Gave s bytes) t (λ n old. refl) (alike_at s (gave_line (length bytes)) (gave_same (length bytes)) v.sockets.lines)
stands_after items v (ReadNotYet s) t o a = still items v (ReadNotYet s) t (λ n old. refl) (alike_at s quieted quieted_same v.sockets.lines)
stands_after items v (WriteNotYet s) t o a = still items v (WriteNotYet s) t (λ n old. refl) (alike_at s blocked blocked_same v.sockets.lines)
stands_after items v (Ended s) t o a = closing items v (Ended s) s t (λ n old. refl) refl
stands_after items v (Shut s) t o a = closing items v (Shut s) s t (λ n old. refl) refl
stands_after items v (Kept bytes) t o a = no_item items v (Kept bytes) a
stands_after items v Synced t o a = no_item items v Synced a
stands_after items v (Failed (ListenCall addr)) t o a = still items v (Failed (ListenCall addr)) t (λ n old. refl) (alike v.sockets.lines)
stands_after items v (Failed (LogCall name)) t o a = no_item items v (Failed (LogCall name)) a
stands_after items v (Failed (DialCall q addr)) t o a = no_item items v (Failed (DialCall q addr)) a
stands_after items v (Failed PollCall) t o a = still items v (Failed PollCall) t (λ n old. refl) (alike v.sockets.lines)
stands_after items v (Failed (ReadCall s)) t o a = closing items v (Failed (ReadCall s)) s t (λ n old. refl) refl
stands_after items v (Failed (WriteCall s)) t o a = closing items v (Failed (WriteCall s)) s t (λ n old. refl) refl
stands_after items v (Failed (KeepCall bytes)) t o a = no_item items v (Failed (KeepCall bytes)) a
stands_after items v (Failed SyncCall) t o a = no_item items v (Failed SyncCall) a

told_more : (v : View) (before items : List Item) (item : Item) → AreTold v before items → OpensNew (before ++ items) item →
    IsAllowed (view_after v items) item → AreTold v before (items ++ item ∷ [])
told_more v before [] item told new may =
    (subst (λ (xs : List Item). OpensNew xs item) (append-nil before) new, may, tt)
told_more v before (first ∷ items) item told new may = (
  told.0,
  told.1,
  told_more (after v first) (before ++ first ∷ []) items item told.2
      (subst (λ (xs : List Item). OpensNew xs item) (sym (append_assoc before (first ∷ []) items)) new) may,
)

pub told_goes_on : ToldGoesOn
told_goes_on items v item t opens_new may =
    let s = v.setting in
    let st = stands_after items v item t opens_new may in
    let allowed : are_allowed (start s) (items ++ item ∷ []) ≡ true =
    added (start s) items item t.allowed (ap (λ (w : View). is_allowed w item) t.shown ∙ may) in
    let told : AreTold (start s) [] (items ++ item ∷ []) =
    told_more (start s) [] items item t.told opens_new (subst (λ (w : View). IsAllowed w item) (sym t.shown) may) in
    let shown : view_of s (items ++ item ∷ []) ≡ after v item = fold-append after (start s) items (item ∷ []) ∙ ap (λ (w : View). after w item) t.shown in
    let kept = setting_after v item in
    record {
      allowed = subst (λ (r : Setting). are_allowed (start r) (items ++ item ∷ []) ≡ true) (sym kept) allowed;
      told = subst (λ (r : Setting). AreTold (start r) [] (items ++ item ∷ [])) (sym kept) told;
      shown = subst (λ (r : Setting). view_of r (items ++ item ∷ []) ≡ after v item) (sym kept) shown;
      stand = st.0;
      differ = st.1;
    }
