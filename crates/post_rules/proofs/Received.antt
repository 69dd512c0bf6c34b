-- Received: a frame waits, and is logged, only where a good datagram was taken that brought it.
use Rattle.std.proofs.Common.{◌≡◌, ◌⊎◌, inl, inr, ℕ, Bool, true, false, refl, sym, ap, ◌∙◌, subst, List, [], ◌∷◌, ◌++◌, append_assoc}
use Rattle.std.specs.Prelude.{Option, Some, None, ◌==◌, max, drop, if◌then◌else◌}
use Rattle.std.proofs.lemmas.Bool.{and_parts, eqb-true, false≢true}
use Rattle.std.proofs.lemmas.Slice.Eq.{bytes_eq-Decides}
use Rattle.plain_lemmas.proofs.Each.{each_append}
use Rattle.definitions.specs.World.{Game}
use Rattle.definitions.specs.declared.frames.TurnFrame.{TurnFrame}
use Rattle.definitions.specs.declared.logs.Entry.{Entry}
use Rattle.definitions.specs.declared.logs.Entry.TheVariants.{Chose, Made, Got}
use Rattle.definitions.specs.Lists.{EachIs}
use Rattle.definition_laws.specs.Members.{Has}
use Rattle.definition_laws.proofs.Members.{Has_middle}
use Rattle.letters.specs.declared.letter.Letter.{Letter}
use Rattle.letters.specs.Reading.{letter_in}
use Rattle.rosters.specs.declared.roster.Link.{Link}
use Rattle.datagram_post.specs.Items.{Item, BindCall, LogCall, PollCall, ReceiveCall, SendCall, KeepCall, SyncCall, Bound, LogBegun, Polled, Took, ReceiveNotYet, Gave, SendNotYet, Failed, Kept, Synced}
use Rattle.peer_rules.specs.declared.arrivals.Arrival.{Arrival}
use Rattle.peer_rules.specs.Passes.{IsWanted}
use Rattle.peer_rules.specs.Entries.{entry_in, is_first}
use Rattle.peer_rules.proofs.Entries.{same_entry}
use Rattle.post_rules.specs.declared.partners.Partner.{Partner}
use Rattle.post_rules.specs.Views.{Setting, View, start, anew, new_partners}
use Rattle.post_rules.specs.Hearing.{partner_of, is_good_for, is_good, told_by, brought_by, heard_if, heard_letter}
use Rattle.post_rules.specs.Handling.{is_new_to, still_new}
use Rattle.post_rules.specs.Keeping.{is_its_turn, waiting_after, may_keep_as, kept_entry}
use Rattle.post_rules.specs.After.{after, view_after}
use Rattle.post_rules.specs.Rules.{is_allowed}
use Rattle.post_rules.specs.Histories.{are_allowed, are_stretches}
use Rattle.post_rules.specs.Laws.{begin_view, joined, view_at, IsRun, Brings, IsBrought, ReceiptsStandBehind}

-- what is known of a view: whence the frames come that wait and that are logged, and who the
-- partners are
pub record Known (P : ℕ → TurnFrame → Type 0) (s : Setting) (v : View) : Type 0 where
  pub setting : v.setting ≡ s
  pub waits : EachIs (λ a. P a.player a.frame) v.waiting
  pub logs : (q : ℕ) (f : TurnFrame) → Has v.kept (Got q f) → P q f
  pub partners : EachIs (λ p. Has s.roster.links p.link) v.partners

module _ (P : ℕ → TurnFrame → Type 0) (s : Setting) where
  -- such a frame came of the player
  abbrev Came : Arrival → Type 0
  Came a = P a.player a.frame

  abbrev InRoster : Partner → Type 0
  InRoster p = Has s.roster.links p.link

  -- ---- partners

  link_told : (b : Bool) (place : ℕ) (p : Partner) → InRoster p → InRoster (if b then record p { told = max p.told place } else p)
  link_told true place p m = m
  link_told false place p m = m

  links_told : (q place : ℕ) (ps : List Partner) → EachIs InRoster ps → EachIs InRoster (told_by q place ps)
  links_told q place [] e = tt
  links_told q place (p ∷ ps) e = (link_told (p.link.player == q) place p e.0, links_told q place ps e.1)

  -- the partner that is found is one of them and has the number
  abbrev Found : (q : ℕ) → Option Partner → Type 0
  Found q None = Unit {0}
  Found q (Some p) = InRoster p × (p.link.player ≡ q)

  found_if : (b : Bool) (q : ℕ) (p : Partner) (o : Option Partner) → (p.link.player == q) ≡ b → InRoster p → Found q o → Found q (if b then Some p else o)
  found_if true q p o e m r = (m, eqb-true p.link.player q e)
  found_if false q p o e m r = r

  found : (q : ℕ) (ps : List Partner) → EachIs InRoster ps → Found q (partner_of ps q)
  found q [] e = tt
  found q (p ∷ ps) e = found_if (p.link.player == q) q p (partner_of ps q) refl e.0 (found q ps e.1)

  -- the pass of a good letter is the one wanted of its player
  wanted_of : (l : Letter) (o : Option Partner) → is_good_for s.game.id l o ≡ true → Found l.player o → (l.id ≡ s.game.id) × IsWanted s.roster l.player l.pass
  wanted_of l None h m = absurd (false≢true h)
  wanted_of l (Some p) h m =
      let x = and_parts _ _ h in (
        (bytes_eq-Decides l.id s.game.id).0 x.0,
        (p.link, m.0, m.1, (bytes_eq-Decides l.pass p.link.wants).0 x.1),
      )

  -- ---- what waits

  waits_if : (b : Bool) (x y : List Arrival) → EachIs Came x → EachIs Came y → EachIs Came (if b then x else y)
  waits_if true x y m n = m
  waits_if false x y m n = n

  waits_new : (game : Game) (me : ℕ) (h : List Entry) (arrivals : List Arrival) → EachIs Came arrivals → EachIs Came (still_new game me h arrivals)
  waits_new game me h [] w = tt
  waits_new game me h (a ∷ more) w = waits_if (is_new_to game me h a) (a ∷ more) (still_new game me h more) w (waits_new game me h more w.1)

  first_is : (arrivals : List Arrival) (q : ℕ) (f : TurnFrame) → EachIs Came arrivals → is_first arrivals q f ≡ true → P q f
  first_is [] q f w h = absurd (false≢true h)
  first_is (a ∷ more) q f w h =
      let e : Got a.player a.frame ≡ Got q f = same_entry (Got a.player a.frame) (Got q f) h in
      let who : a.player ≡ q = cc in
      let what : a.frame ≡ f = cc in
      subst (λ (x : ℕ). P x f) who (subst (P a.player) what w.0)

  rest_is : (arrivals : List Arrival) → EachIs Came arrivals → EachIs Came (drop 1 arrivals)
  rest_is [] w = tt
  rest_is (a ∷ more) w = w.1

  waits_after : (game : Game) (me : ℕ) (h : List Entry) (arrivals : List Arrival) (e : Entry) → EachIs Came arrivals → EachIs Came (waiting_after game me h arrivals e)
  waits_after game me h arrivals (Chose t m n) w = w
  waits_after game me h arrivals (Made f) w = w
  waits_after game me h arrivals (Got q f) w = rest_is (still_new game me h arrivals) (waits_new game me h arrivals w)

  -- ---- items

  has_last : (xs : List Entry) (x y : Entry) → Has (xs ++ x ∷ []) y → Has xs y ⊎ (x ≡ y)
  has_last [] x y (inl e) = inr e
  has_last [] x y (inr m) = absurd m
  has_last (z ∷ xs) x y (inl e) = inl (inl e)
  has_last (z ∷ xs) x y (inr m) = elim (has_last xs x y m) [ inl a ↦ inl (inr a) | inr b ↦ inr b ]

  known_entry : (v : View) (bytes : List ℕ) (o : Option Entry) → may_keep_as v bytes o ≡ true → Known P s v → Known P s (kept_entry v o)
  known_entry v bytes None h k = k
  known_entry v bytes (Some e) h k =
      let turn : is_its_turn v.setting.game v.setting.me v.kept v.waiting e ≡ true = (and_parts _ _ (and_parts _ _ h).1).1 in
      record {
        setting = k.setting;
        waits = waits_after v.setting.game v.setting.me v.kept v.waiting e k.waits;
        logs = λ q f m. elim (has_last v.kept e (Got q f) m) [
          | inl before ↦ k.logs q f before
          | inr same ↦ first_is (still_new v.setting.game v.setting.me v.kept v.waiting) q f (waits_new v.setting.game v.setting.me v.kept v.waiting k.waits)
              (subst (λ (x : Entry). is_its_turn v.setting.game v.setting.me v.kept v.waiting x ≡ true) same turn)
        ];
        partners = k.partners;
      }

  known_brought : (l : Letter) (o : Option TurnFrame) → ((f : TurnFrame) → o ≡ Some f → P l.player f) → EachIs Came (brought_by l.player o)
  known_brought l None f = tt
  known_brought l (Some x) f = (f x refl, tt)

  known_heard : (v : View) (l : Letter) (b : Bool) → is_good v.setting.game.id v.partners l ≡ b →
      ((f : TurnFrame) → (l.id ≡ s.game.id) → IsWanted s.roster l.player l.pass → l.frame ≡ Some f → P l.player f) → Known P s v → Known P s (heard_if b l v)
  known_heard v l false e f k = record { setting = k.setting; waits = k.waits; logs = k.logs; partners = k.partners }
  known_heard v l true e f k =
      let good : is_good_for s.game.id l (partner_of v.partners l.player) ≡ true =
      ap (λ (x : Setting). is_good_for x.game.id l (partner_of v.partners l.player)) (sym k.setting) ∙ e in
      let w = wanted_of l (partner_of v.partners l.player) good (found l.player v.partners k.partners) in
      record {
        setting = k.setting;
        waits = each_append Came v.waiting (brought_by l.player l.frame) k.waits (known_brought l l.frame (λ x same. f x w.0 w.1 same));
        logs = k.logs;
        partners = links_told l.player l.next v.partners k.partners;
      }

  known_letter : (v : View) (bytes : List ℕ) (o : Option Letter) → letter_in bytes ≡ o → ((q : ℕ) (f : TurnFrame) → Brings s bytes q f → P q f) → Known P s v → Known P s (heard_letter o v)
  known_letter v bytes None e f k = record { setting = k.setting; waits = k.waits; logs = k.logs; partners = k.partners }
  known_letter v bytes (Some l) e f k =
      known_heard v l (is_good v.setting.game.id v.partners l) refl
      (λ x same wanted frame. f l.player x (record { letter = l; reads = e; session = same; player = refl; wanted = wanted; frame = frame })) k

  known_took : (v : View) (bytes : List ℕ) → ((q : ℕ) (f : TurnFrame) → Brings s bytes q f → P q f) → Known P s v → Known P s (after v (Took bytes))
  known_took v bytes f k =
      let r = known_letter v bytes (letter_in bytes) refl f k in
      record { setting = r.setting; waits = r.waits; logs = r.logs; partners = r.partners }

  like : (v w : View) → w.setting ≡ v.setting → w.waiting ≡ v.waiting → w.kept ≡ v.kept → w.partners ≡ v.partners → Known P s v → Known P s w
  like v w a b c d k = record {
    setting = a ∙ k.setting;
    waits = subst (EachIs Came) (sym b) k.waits;
    logs = λ q f m. k.logs q f (subst (λ (x : List Entry). Has x (Got q f)) c m);
    partners = subst (EachIs InRoster) (sym d) k.partners;
  }

  pub known_anew : (v : View) → Known P s v → Known P s (anew v)
  known_anew v k = record { setting = k.setting; waits = tt; logs = k.logs; partners = k.partners }

  known_item : (v : View) (item : Item) → ((bytes : List ℕ) (q : ℕ) (f : TurnFrame) → item ≡ Took bytes → Brings s bytes q f → P q f) → is_allowed v item ≡ true → Known P s v → Known P s (after v item)
  known_item v (LogBegun name) f h k = like v (after v (LogBegun name)) refl refl refl refl k
  known_item v (Bound addr) f h k = like v (after v (Bound addr)) refl refl refl refl k
  known_item v Polled f h k = record { setting = k.setting; waits = tt; logs = k.logs; partners = k.partners }
  known_item v (Took bytes) f h k = known_took v bytes (λ q x b. f bytes q x refl b) k
  known_item v ReceiveNotYet f h k = like v (after v ReceiveNotYet) refl refl refl refl k
  known_item v (Gave addr bytes) f h k = like v (after v (Gave addr bytes)) refl refl refl refl k
  known_item v (SendNotYet addr bytes) f h k = like v (after v (SendNotYet addr bytes)) refl refl refl refl k
  known_item v (Kept bytes) f h k = known_entry v bytes (entry_in v.writer bytes) (and_parts _ _ h).1 k
  known_item v Synced f h k = like v (after v Synced) refl refl refl refl k
  known_item v (Failed (BindCall addr)) f h k = like v (after v (Failed (BindCall addr))) refl refl refl refl k
  known_item v (Failed (LogCall name)) f h k = like v (after v (Failed (LogCall name))) refl refl refl refl k
  known_item v (Failed PollCall) f h k = like v (after v (Failed PollCall)) refl refl refl refl k
  known_item v (Failed ReceiveCall) f h k = like v (after v (Failed ReceiveCall)) refl refl refl refl k
  known_item v (Failed (SendCall addr bytes)) f h k = like v (after v (Failed (SendCall addr bytes))) refl refl refl refl k
  known_item v (Failed (KeepCall bytes)) f h k = like v (after v (Failed (KeepCall bytes))) refl refl refl refl k
  known_item v (Failed SyncCall) f h k = like v (after v (Failed SyncCall)) refl refl refl refl k

  -- the datagrams that these items took bring such frames
  abbrev Tells : List Item → Type 0
  Tells items = (before : List Item) (bytes : List ℕ) (more : List Item) (q : ℕ) (f : TurnFrame) → items ≡ before ++ Took bytes ∷ more → Brings s bytes q f → P q f

  tells_rest : (item : Item) (items : List Item) → Tells (item ∷ items) → Tells items
  tells_rest item items t before bytes more q f e b = t (item ∷ before) bytes more q f (ap (λ (x : List Item). item ∷ x) e) b

  tells_front : (xs ys : List Item) → Tells (xs ++ ys) → Tells xs
  tells_front xs ys t before bytes more q f e b =
      t before bytes (more ++ ys) q f (ap (λ (x : List Item). x ++ ys) e ∙ append_assoc before (Took bytes ∷ more) ys) b

  tells_back : (xs ys : List Item) → Tells (xs ++ ys) → Tells ys
  tells_back [] ys t = t
  tells_back (x ∷ xs) ys t = tells_back xs ys (tells_rest x (xs ++ ys) t)

  pub known_all : (v : View) (items : List Item) → Tells items → are_allowed v items ≡ true → Known P s v → Known P s (view_after v items)
  known_all v [] t h k = k
  known_all v (item ∷ items) t h k =
      let p = and_parts _ _ h in
      known_all (after v item) items (tells_rest item items t) p.1
      (known_item v item (λ bytes q f e b. t [] bytes items q f (ap (λ (x : Item). x ∷ items) e) b) p.0 k)

  pub known_stretches : (v : View) (front : List (List Item)) → Tells (joined front) → are_stretches v front ≡ true → Known P s v → Known P s (begin_view v front)
  known_stretches v [] t h k = k
  known_stretches v (items ∷ more) t h k =
      let p = and_parts _ _ h in
      known_stretches (anew (view_after v items)) more (tells_back items (joined more) t) p.1
      (known_anew (view_after v items) (known_all v items (tells_front items (joined more) t) p.0 k))

  linked : (all front links : List Link) → all ≡ front ++ links → s.roster.links ≡ all → EachIs InRoster (new_partners links)
  linked all front [] e r = tt
  linked all front (x ∷ links) e r = (
    subst (λ (y : List Link). Has y x) (sym e ∙ sym r) (Has_middle front links x),
    linked all (front ++ x ∷ []) links (e ∙ sym (append_assoc front (x ∷ []) links)) r,
  )

  pub known_run : (front : List (List Item)) (items : List Item) → Tells (joined front ++ items) → IsRun s front items → Known P s (view_at s front items)
  known_run front items t r =
      known_all (begin_view (start s) front) items (tells_back (joined front) items t) r.1
      (known_stretches (start s) front (tells_front (joined front) items t) r.0
      (record { setting = refl; waits = tt; logs = λ q f m. absurd m; partners = linked s.roster.links [] s.roster.links refl refl }))

-- what a run took is known
pub known_brought_in : (s : Setting) (front : List (List Item)) (items : List Item) → IsRun s front items →
    Known (IsBrought s (joined front ++ items)) s (view_at s front items)
known_brought_in s front items r =
    known_run (IsBrought s (joined front ++ items)) s front items
    (λ before bytes more q f e b. record { before = before; bytes = bytes; more = more; stands = e; brings = b }) r

pub receipts_stand_behind : ReceiptsStandBehind
receipts_stand_behind s front items q f r m = (known_brought_in s front items r).logs q f m
