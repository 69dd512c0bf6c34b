-- Received: a frame waits, and is logged, only where bytes were taken that made it whole, on a socket that its player's pass had named.
use Rattle.std.proofs.Common.{◌≡◌, ◌⊎◌, inl, inr, ℕ, zero, suc, Bool, true, false, refl, sym, ap, ◌∙◌, subst, List, [], ◌∷◌, ◌++◌, append_assoc, append-nil}
use Rattle.std.specs.Prelude.{Option, Some, None, not, length, map, slice_get, if◌then◌else◌}
use Rattle.std.specs.List.{fold}
use Rattle.std.proofs.lemmas.Bool.{and_parts, false≢true}
use Rattle.std.proofs.lemmas.List.Sums.{fold-append}
use Rattle.plain_lemmas.proofs.Each.{each_kept}
use Rattle.definitions.specs.declared.frames.TurnFrame.{TurnFrame}
use Rattle.definitions.specs.declared.logs.Entry.{Entry}
use Rattle.definitions.specs.declared.logs.Entry.TheVariants.{Chose, Made, Got}
use Rattle.definitions.specs.Answers.{is_far}
use Rattle.definitions.specs.Lists.{EachIs}
use Rattle.definitions.specs.Logs.{player_of}
use Rattle.definitions.specs.Findings.{is_clean}
use Rattle.definition_laws.specs.Members.{Has}
use Rattle.definition_laws.proofs.Members.{Has_back, Has_front, Has_middle}
use Rattle.wire_frames.specs.declared.frames.Frame.{Frame}
use Rattle.wire_frames.specs.declared.frames.Frame.TheVariants.{Hello, Turn}
use Rattle.wire_frames.specs.Streams.{given_of}
use Rattle.rosters.specs.declared.roster.Link.{Link}
use Rattle.socket_station.specs.declared.answers.Ready.{Ready}
use Rattle.socket_station.specs.declared.answers.Ready.TheVariants.{Opened, Socket as Seems}
use Rattle.socket_station.specs.Items.{Item, ListenCall, LogCall, DialCall, PollCall, ReadCall, WriteCall, KeepCall, SyncCall, Listening, LogBegun, Dialled, Polled, Took, Gave, ReadNotYet, WriteNotYet, Ended, Failed, Shut, Kept, Synced}
use Rattle.socket_lines.specs.declared.line.Line.{Line}
use Rattle.socket_lines.specs.Seats.{asks, dials, new_seat}
use Rattle.socket_lines.specs.Lines.{blocked, closed, dialled_line, quieted}
use Rattle.socket_lines.specs.Giving.{Desk, Speaker}
use Rattle.peer_rules.specs.declared.arrivals.Arrival.{Arrival}
use Rattle.peer_rules.specs.declared.phases.Phase.{Phase}
use Rattle.peer_rules.specs.declared.phases.Phase.TheVariants.{Fresh, Logged, Running, KeepFault, PollFault}
use Rattle.loop_rules.specs.Settings.{Setting, last_place, speaker_of}
use Rattle.loop_rules.specs.Tables.{Table, line_of, at_line, at_seat, desk_of}
use Rattle.loop_rules.specs.Views.{View, start, safe_frames}
use Rattle.loop_rules.specs.Hearing.{counted, heard_all, read_at, read_on, took_on, took_with}
use Rattle.loop_rules.specs.Handling.{with_waiting, hearer_of, next_of, passed, is_new_to, sorted, sorted_out}
use Rattle.loop_rules.specs.Keeping.{may_keep_in, may_keep_as, with_entry, kept_entry, waiting_behind}
use Rattle.peer_rules.specs.Entries.{entry_in, is_first}
use Rattle.loop_rules.specs.After.{after, dialled_on, gave_with, gave_by, in_phase, listed, own_at, polled_on, rested, view_of, with_table}
use Rattle.loop_rules.specs.Rules.{is_allowed}
use Rattle.loop_rules.specs.Histories.{are_allowed}
use Rattle.loop_rules.specs.Laws.{HasHello, IsBrought, IsGreeted, ReceiptsStandBehind}
use Rattle.peer_rules.specs.Passes.{IsWanted}
use Rattle.loop_rules.proofs.Kept.{Keeps, keeps_same, keeps_sorted}
use Rattle.peer_rules.proofs.Entries.{same_entry, entry_is}
use Rattle.loop_rules.proofs.Named.{Named, Stands, stands_asks, stands_gave, stands_line, stands_listed, stands_more, stands_read, stands_rested, stands_seat, stands_weaker}
use Rattle.loop_rules.proofs.Heard.{Waits, heard_so}

waits_view : (P : TurnFrame → Type 0) (b : Bool) (x y : View) → Waits P x.table.waiting → Waits P y.table.waiting → Waits P (if b then x else y).table.waiting
waits_view P true x y m n = m
waits_view P false x y m n = n

waits_sorted : (P : TurnFrame → Type 0) (arrivals : List Arrival) (v : View) → Waits P arrivals → Waits P (sorted arrivals v).table.waiting
waits_sorted P [] v w = tt
waits_sorted P (a ∷ more) v w =
    waits_view P (not (is_clean v.setting.game v.kept)) (with_waiting [] v) (if is_new_to v a then with_waiting (a ∷ more) v else sorted more (passed v a)) tt
    (waits_view P (is_new_to v a) (with_waiting (a ∷ more) v) (sorted more (passed v a)) w (waits_sorted P more (passed v a) w.1))

waits_counted : (P : TurnFrame → Type 0) (o : Option ℕ) (count : ℕ) (t : Table) → Waits P t.waiting → Waits P (counted o count t).waiting
waits_counted P None count t w = w
waits_counted P (Some q) count t w = w

waits_gave_with : (P : TurnFrame → Type 0) (k : Speaker) (own : Option TurnFrame) (count : ℕ) (t : Table) (o : Option Desk) → Waits P t.waiting → Waits P (gave_with k own count t o).waiting
waits_gave_with P k own count t None w = w
waits_gave_with P k own count t (Some d) w = w

waits_gave : (P : TurnFrame → Type 0) (k : Speaker) (safe : List TurnFrame) (count : ℕ) (t : Table) (o : Option Line) → Waits P t.waiting → Waits P (gave_by k safe count t o).waiting
waits_gave P k safe count t None w = w
waits_gave P k safe count t (Some l) w = waits_gave_with P k (own_at safe l) count t (desk_of t l) w

waits_one : (P : TurnFrame → Type 0) (t : Table) (r : Ready) → Waits P t.waiting → Waits P (listed t r).waiting
waits_one P t (Opened s) w = w
waits_one P t (Seems s) w = w

waits_listed : (P : TurnFrame → Type 0) (t : Table) (list : List Ready) → Waits P t.waiting → Waits P (fold listed t list).waiting
waits_listed P t [] w = w
waits_listed P t (r ∷ list) w = waits_listed P (listed t r) list (waits_one P t r w)

-- ---- entries

-- each frame that is logged as received was taken over, or is such a one
abbrev pub Logs : (TurnFrame → Type 0) → (over : List Entry) → List Entry → Type 0
Logs P over kept = (q : ℕ) (f : TurnFrame) → Has kept (Got q f) → Has over (Got q f) ⊎ P f

-- What is known of a view: whence the frames come that wait and that are logged, and what is so of the names of its sockets.
record Known (P : TurnFrame → Type 0) (G : ℕ → ℕ → Type 0) (s : Setting) (v : View) : Type 0 where
  pub setting : v.setting ≡ s
  pub waits : Waits P v.table.waiting
  pub logs : Logs P s.over v.kept
  pub table : Stands G (λ link. Has s.roster.links link) v.table

has_last : (xs : List Entry) (x y : Entry) → Has (xs ++ x ∷ []) y → Has xs y ⊎ (x ≡ y)
has_last [] x y (inl e) = inr e
has_last [] x y (inr m) = absurd m
has_last (z ∷ xs) x y (inl e) = inl (inl e)
has_last (z ∷ xs) x y (inr m) = elim (has_last xs x y m) [ inl a ↦ inl (inr a) | inr b ↦ inr b ]

has_at : (xs : List Entry) (n : ℕ) (x : Entry) → slice_get xs n ≡ Some x → Has xs x
has_at [] n x e = absurd (cc)
has_at (y ∷ xs) zero x e = inl (cc)
has_at (y ∷ xs) (suc n) x e = inr (has_at xs n x e)

first_is : (P : TurnFrame → Type 0) (arrivals : List Arrival) (q : ℕ) (f : TurnFrame) → Waits P arrivals → is_first arrivals q f ≡ true → P f
first_is P [] q f w h = absurd (false≢true h)
first_is P (a ∷ more) q f w h =
    let same : a.frame ≡ f = (let e : Got a.player a.frame ≡ Got q f = same_entry (Got a.player a.frame) (Got q f) h in cc) in
    subst P same w.0

dropped : (P : TurnFrame → Type 0) (e : Entry) (arrivals : List Arrival) → Waits P arrivals → Waits P (waiting_behind e arrivals)
dropped P (Chose t m n) arrivals w = w
dropped P (Made f) arrivals w = w
dropped P (Got q f) [] w = w
dropped P (Got q f) (a ∷ more) w = w.1

-- an entry that may be kept was taken over, or is of the first frame that waits
source : (P : TurnFrame → Type 0) (s : Setting) (v : View) (p : Phase) (q : ℕ) (f : TurnFrame) → may_keep_in p v (Got q f) ≡ true → v.setting ≡ s → Waits P v.table.waiting → Has s.over (Got q f) ⊎ P f
source P s v Fresh q f h e w = absurd (false≢true h)
source P s v Logged q f h e w =
    inl (has_at s.over (length v.kept) (Got q f)
    (ap (λ (z : Setting). slice_get z.over (length v.kept)) (sym e) ∙ entry_is (slice_get v.setting.over (length v.kept)) (Got q f) h))
source P s v Running q f h e w = inr (first_is P v.table.waiting q f w (and_parts _ _ (and_parts _ _ h).1).1)
source P s v KeepFault q f h e w = absurd (false≢true h)
source P s v PollFault q f h e w = absurd (false≢true h)

module _ (P : TurnFrame → Type 0) (G : ℕ → ℕ → Type 0) (s : Setting) where
  abbrev L : Link → Type 0
  L link = Has s.roster.links link

  -- a table alone is changed, and none of the frames that wait
  with_lines : (v : View) (t : Table) → t.waiting ≡ v.table.waiting → Stands G L t → Known P G s v → Known P G s (with_table t v)
  with_lines v t e st k = record { setting = k.setting; waits = subst (Waits P) (sym e) k.waits; logs = k.logs; table = st }

  stands_passed : (v : View) (a : Arrival) → Stands G L v.table → Stands G L (passed v a).table
  stands_passed v a st = go (is_far v.setting.game v.setting.me v.kept a.player a.frame)
    where
      go : (b : Bool) → Stands G L (if b then record v { table = at_seat a.player (asks (next_of v a.player)) v.table } else v).table
      go true = stands_asks G L a.player (next_of v a.player) v.table st
      go false = st

  stands_sorted : (arrivals : List Arrival) (v : View) → Stands G L v.table → Stands G L (sorted arrivals v).table
  stands_sorted [] v st = record { named = st.named; linked = st.linked }
  stands_sorted (a ∷ more) v st = go (not (is_clean v.setting.game v.kept)) (is_new_to v a) (stands_sorted more (passed v a) (stands_passed v a st))
    where
      go : (b c : Bool) → Stands G L (sorted more (passed v a)).table →
          Stands G L (if b then with_waiting [] v else if c then with_waiting (a ∷ more) v else sorted more (passed v a)).table
      go true c rest = record { named = st.named; linked = st.linked }
      go false true rest = record { named = st.named; linked = st.linked }
      go false false rest = rest

  -- what waits is handled
  known_sorted : (v w : View) → Keeps v w → Waits P w.table.waiting → Stands G L w.table → Known P G s v → Known P G s (sorted_out w)
  known_sorted v w keeps waits st k =
      let more = keeps_sorted w.table.waiting w in
      record {
        setting = more.setting ∙ keeps.setting ∙ k.setting;
        waits = waits_sorted P w.table.waiting w waits;
        logs = λ q f m. k.logs q f (subst (λ (x : List Entry). Has x (Got q f)) (more.kept ∙ keeps.kept) m);
        table = stands_sorted w.table.waiting w st;
      }

  known_entry : (v : View) (e : Entry) → may_keep_in v.phase v e ≡ true → Known P G s v → Known P G s (with_entry e v)
  known_entry v e h k = record {
    setting = k.setting;
    waits = dropped P e v.table.waiting k.waits;
    logs = λ q f m. elim (has_last v.kept e (Got q f) m) [
      | inl before ↦ k.logs q f before
      | inr same ↦ source P s v v.phase q f (subst (λ (x : Entry). may_keep_in v.phase v x ≡ true) same h) k.setting k.waits
    ];
    table = record { named = k.table.named; linked = k.table.linked };
  }

  known_kept : (v : View) (bytes : List ℕ) (o : Option Entry) → may_keep_as v bytes o ≡ true → Known P G s v → Known P G s (kept_entry v o)
  known_kept v bytes None h k = k
  known_kept v bytes (Some e) h k =
      let w = with_entry e v in
      let r = known_entry v e (and_parts _ _ h).1 k in
      known_sorted w w (keeps_same w w refl refl refl refl refl) r.waits r.table r

  dialled : (v : View) (n q : ℕ) → Known P G s v → Known P G s (with_table (dialled_on n q ((hearer_of v).next q) v.table) v)
  dialled v n q k =
      let t : Table = record v.table { lines = v.table.lines ++ dialled_line n q ((hearer_of v).next q) ∷ [] } in
      with_lines v (at_seat q dials t) refl (stands_seat G L q dials t (λ c. refl) (record { named = stands_more G L (dialled_line n q ((hearer_of v).next q)) v.table refl k.table; linked = k.table.linked })) k

  polled : (v : View) (list : List Ready) → Known P G s v → Known P G s (with_table (polled_on list v.table) v)
  polled v list k = record {
    setting = k.setting;
    waits = waits_listed P (rested v.table) list k.waits;
    logs = k.logs;
    table = stands_listed G L (rested v.table) list (stands_rested G L v.table k.table);
  }

  gave : (v : View) (n count : ℕ) → Known P G s v → Known P G s (with_table (gave_by (speaker_of v.setting) (safe_frames v) count v.table (line_of v.table n)) v)
  gave v n count k = record {
    setting = k.setting;
    waits = waits_gave P (speaker_of v.setting) (safe_frames v) count v.table (line_of v.table n) k.waits;
    logs = k.logs;
    table = stands_gave G L (speaker_of v.setting) (safe_frames v) count v.table n (line_of v.table n) refl k.table;
  }

  at_one : (v : View) (n : ℕ) (change : Line → Line) → ((l : Line) → Named G l → Named G (change l)) → Known P G s v → Known P G s (with_table (at_line n change v.table) v)
  at_one v n change keeps k = with_lines v (at_line n change v.table) refl (stands_line G L n change v.table keeps k.table) k

  in_other : (v : View) (p : Phase) → Known P G s v → Known P G s (in_phase p v)
  in_other v p k = record { setting = k.setting; waits = k.waits; logs = k.logs; table = k.table }

  -- any item, where those that take bytes are as they are said to be
  known_item : (v : View) (item : Item) → ((n : ℕ) (bytes : List ℕ) → item ≡ Took n bytes → Known P G s (after v (Took n bytes))) → is_allowed v item ≡ true → Known P G s v → Known P G s (after v item)
  known_item v (LogBegun name) took h k = in_other v Logged k
  known_item v (Listening addr) took h k = in_other v Running k
  known_item v (Dialled n q addr) took h k = dialled v n q k
  known_item v (Polled list) took h k = polled v list k
  known_item v (Took n bytes) took h k = took n bytes refl
  known_item v (Gave n bytes) took h k = gave v n (length bytes) k
  known_item v (ReadNotYet n) took h k = at_one v n quieted (λ l x. x) k
  known_item v (WriteNotYet n) took h k = at_one v n blocked (λ l x. x) k
  known_item v (Ended n) took h k = at_one v n closed (λ l x. x) k
  known_item v (Shut n) took h k = at_one v n closed (λ l x. x) k
  known_item v (Kept bytes) took h k = known_kept v bytes (entry_in v.writer bytes) h k
  known_item v Synced took h k = record { setting = k.setting; waits = k.waits; logs = k.logs; table = k.table }
  known_item v (Failed (ListenCall addr)) took h k = in_other v PollFault k
  known_item v (Failed (LogCall name)) took h k = in_other v KeepFault k
  known_item v (Failed (DialCall q addr)) took h k = with_lines v (at_seat q dials v.table) refl (stands_seat G L q dials v.table (λ c. refl) k.table) k
  known_item v (Failed PollCall) took h k = in_other v PollFault k
  known_item v (Failed (ReadCall n)) took h k = at_one v n closed (λ l x. x) k
  known_item v (Failed (WriteCall n)) took h k = at_one v n closed (λ l x. x) k
  known_item v (Failed (KeepCall bytes)) took h k = in_other v KeepFault k
  known_item v (Failed SyncCall) took h k = in_other v KeepFault k

-- ---- items

-- what was so of fewer items
further : (before more : List Item) (item last : Item) (items : List Item) → items ≡ before ++ item ∷ more → items ++ last ∷ [] ≡ before ++ item ∷ (more ++ last ∷ [])
further before more item last items e = ap (λ (x : List Item). x ++ last ∷ []) e ∙ append_assoc before (item ∷ more) (last ∷ [])

greeted_further : (s : Setting) (items : List Item) (last : Item) (socket q : ℕ) → IsGreeted s items socket q → IsGreeted s (items ++ last ∷ []) socket q
greeted_further s items last socket q g = record {
  before = g.before;
  item = g.item;
  more = g.more ++ last ∷ [];
  stands = further g.before g.more g.item last items g.stands;
  frames = g.frames;
  brought = g.brought;
  hello = g.hello;
}

brought_further : (s : Setting) (items : List Item) (last : Item) (f : TurnFrame) → IsBrought s items f → IsBrought s (items ++ last ∷ []) f
brought_further s items last f b = record {
  before = b.before;
  item = b.item;
  more = b.more ++ last ∷ [];
  stands = further b.before b.more b.item last items b.stands;
  socket = b.socket;
  front = b.front;
  back = b.back;
  brought = b.brought;
  greeted = b.greeted;
}

waits_weaker : (P Q : TurnFrame → Type 0) (arrivals : List Arrival) → ((f : TurnFrame) → P f → Q f) → Waits P arrivals → Waits Q arrivals
waits_weaker P Q arrivals all w = each_kept (λ (a : Arrival). P a.frame) (λ a. Q a.frame) arrivals (λ a. all a.frame) w

known_weaker : (P Q : TurnFrame → Type 0) (G H : ℕ → ℕ → Type 0) (s : Setting) (v : View) → ((f : TurnFrame) → P f → Q f) → ((socket q : ℕ) → G socket q → H socket q) → Known P G s v → Known Q H s v
known_weaker P Q G H s v p g k = record {
  setting = k.setting;
  waits = waits_weaker P Q v.table.waiting p k.waits;
  logs = λ q f m. elim (k.logs q f m) [ inl over ↦ inl over | inr x ↦ inr (p f x) ];
  table = stands_weaker G H (λ link. Has s.roster.links link) v.table g k.table;
}

-- bytes were taken behind these items
module _ (s : Setting) (items : List Item) (n : ℕ) (bytes : List ℕ) (k : Known (IsBrought s items) (IsGreeted s items) s (view_of s items)) where
  abbrev v : View
  v = view_of s items

  abbrev more : List Item
  more = items ++ Took n bytes ∷ []

  -- a name that a socket has behind the first of the frames
  abbrev By : List Frame → ℕ → ℕ → Type 0
  By front socket q = IsGreeted s items socket q ⊎ ((n ≡ socket) × HasHello s q front)

  by_grown : (front : List Frame) (f : Frame) (socket q : ℕ) → By front socket q → By (front ++ f ∷ []) socket q
  by_grown front f socket q (inl g) = inl g
  by_grown front f socket q (inr b) = inr (b.0, record { pass = b.1.pass; next = b.1.next; wanted = b.1.wanted; stands = Has_front front (f ∷ []) _ b.1.stands })

  by_hello : (front : List Frame) (q : ℕ) (pass : List ℕ) (next : ℕ) → IsWanted s.roster q pass → By (front ++ Hello s.game.id q pass next ∷ []) n q
  by_hello front q pass next wanted = inr (refl, record { pass = pass; next = next; wanted = wanted; stands = Has_back front (Hello s.game.id q pass next ∷ []) _ (inl refl) })

  with_line : (l : Line) → line_of v.table n ≡ Some l → Known (IsBrought s more) (IsGreeted s more) s (after v (Took n bytes))
  with_line l e =
      let g = given_of l.reader bytes in
      let h = hearer_of v in
      let u = read_at n (length bytes) g l v.table in
      let before = known_weaker (IsBrought s items) (IsBrought s more) (IsGreeted s items) (IsGreeted s more) s v (brought_further s items (Took n bytes)) (greeted_further s items (Took n bytes)) k in
      let brings : (front back : List Frame) (f : TurnFrame) → g.frames ≡ front ++ Turn f ∷ back → By front n (player_of f) → IsBrought s more f = λ front back f same by. record {
        before = items;
        item = Took n bytes;
        more = [];
        stands = refl;
        socket = n;
        front = front;
        back = back;
        brought = (refl, (l, e, same));
        greeted = elim by [ inl x ↦ inl x | inr x ↦ inr x.1 ];
      } in
      let names : (socket q : ℕ) → By g.frames socket q → IsGreeted s more socket q = λ socket q by. elim by [
        | inl x ↦ greeted_further s items (Took n bytes) socket q x
        | inr x ↦ record { before = items; item = Took n bytes; more = []; stands = refl; frames = g.frames; brought = (x.0, (l, e, refl)); hello = x.1 }
      ] in
      let first : Stands (By []) (λ link. Has s.roster.links link) u =
      stands_read (By []) (λ link. Has s.roster.links link) n (length bytes) g l v.table
      (stands_weaker (IsGreeted s items) (By []) (λ link. Has s.roster.links link) v.table (λ socket q x. inl x) k.table) in
      let heard = heard_so s h n g.frames By (IsBrought s more) (ap (λ (x : Setting). x.game.id) k.setting) by_grown by_hello brings g u refl
      (first, waits_counted (IsBrought s more) l.name (length bytes) (at_line n (read_on (length bytes) g) v.table) before.waits) in
      let w = with_table (heard_all h n g u) v in
      let taken : with_table (took_on h n bytes v.table) v ≡ w = ap (λ (o : Option Line). with_table (took_with h v.table n bytes o) v) e in
      subst (λ (x : View). Known (IsBrought s more) (IsGreeted s more) s (sorted_out x)) (sym taken)
      (known_sorted (IsBrought s more) (IsGreeted s more) s v w (keeps_same v w refl refl refl refl refl) heard.1
      (stands_weaker (By g.frames) (IsGreeted s more) (λ link. Has s.roster.links link) w.table names heard.0) before)

  with_none : line_of v.table n ≡ None → Known (IsBrought s more) (IsGreeted s more) s (after v (Took n bytes))
  with_none e =
      let before = known_weaker (IsBrought s items) (IsBrought s more) (IsGreeted s items) (IsGreeted s more) s v (brought_further s items (Took n bytes)) (greeted_further s items (Took n bytes)) k in
      let taken : with_table (took_on (hearer_of v) n bytes v.table) v ≡ with_table v.table v = ap (λ (o : Option Line). with_table (took_with (hearer_of v) v.table n bytes o) v) e in
      subst (λ (x : View). Known (IsBrought s more) (IsGreeted s more) s (sorted_out x)) (sym taken)
      (known_sorted (IsBrought s more) (IsGreeted s more) s v (with_table v.table v) (keeps_same v (with_table v.table v) refl refl refl refl refl) before.waits before.table before)

  known_took : Known (IsBrought s more) (IsGreeted s more) s (after v (Took n bytes))
  known_took = go (line_of v.table n) refl
    where
      go : (o : Option Line) → line_of v.table n ≡ o → Known (IsBrought s more) (IsGreeted s more) s (after v (Took n bytes))
      go None e = with_none e
      go (Some l) e = with_line l e

known_next : (s : Setting) (items : List Item) (item : Item) → is_allowed (view_of s items) item ≡ true → Known (IsBrought s items) (IsGreeted s items) s (view_of s items) →
    Known (IsBrought s (items ++ item ∷ [])) (IsGreeted s (items ++ item ∷ [])) s (after (view_of s items) item)
known_next s items item h k =
    known_item (IsBrought s (items ++ item ∷ [])) (IsGreeted s (items ++ item ∷ [])) s (view_of s items) item
    (λ n bytes e. subst (λ (x : Item). Known (IsBrought s (items ++ x ∷ [])) (IsGreeted s (items ++ x ∷ [])) s (after (view_of s items) (Took n bytes))) (sym e) (known_took s items n bytes k)) h
    (known_weaker (IsBrought s items) (IsBrought s (items ++ item ∷ [])) (IsGreeted s items) (IsGreeted s (items ++ item ∷ [])) s (view_of s items) (brought_further s items item) (greeted_further s items item) k)

abbrev Behind : Setting → List Item → Type 0
Behind s items = Known (IsBrought s items) (IsGreeted s items) s (view_of s items)

known_all : (s : Setting) (before items : List Item) → are_allowed (view_of s before) items ≡ true → Behind s before → Behind s (before ++ items)
known_all s before [] h k = subst (Behind s) (sym (append-nil before)) k
known_all s before (item ∷ items) h k =
    let p = and_parts _ _ h in
    let view : after (view_of s before) item ≡ view_of s (before ++ item ∷ []) = sym (fold-append after (start s) before (item ∷ [])) in
    let next : Behind s (before ++ item ∷ []) =
    subst (λ (x : View). Known (IsBrought s (before ++ item ∷ [])) (IsGreeted s (before ++ item ∷ [])) s x) view (known_next s before item p.0 k) in
    subst (Behind s) (append_assoc before (item ∷ []) items)
    (known_all s (before ++ item ∷ []) items (subst (λ (x : View). are_allowed x items ≡ true) view p.1) next)

-- each of a list's links is one of it
each_link : (most : ℕ) (all front links : List Link) → all ≡ front ++ links → EachIs (λ c. Has all c.link) (map (new_seat most) links)
each_link most all front [] e = tt
each_link most all front (x ∷ links) e =
    (subst (λ (y : List Link). Has y x) (sym e) (Has_middle front links x), each_link most all (front ++ x ∷ []) links (e ∙ sym (append_assoc front (x ∷ []) links)))

pub receipts_stand_behind : ReceiptsStandBehind
receipts_stand_behind s items q f h m =
    let first : Behind s [] = record {
      setting = refl;
      waits = tt;
      logs = λ k g n. absurd n;
      table = record { named = tt; linked = each_link (last_place s) s.roster.links [] s.roster.links refl };
    } in
    (known_all s [] items h first).logs q f m
