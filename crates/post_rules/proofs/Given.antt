-- Given: what is given speaks of the log that is kept and synced, and a reveal in it stands behind
-- what its turn needed.
use Rattle.std.proofs.Common.{◌≡◌, ◌≤◌, inl, inr, ℕ, zero, suc, true, false, refl, sym, ap, ◌∙◌, subst, List, [], ◌∷◌, ◌++◌}
use Rattle.std.specs.Prelude.{Option, Some, None, take, drop, length, slice_get, map}
use Rattle.std.proofs.lemmas.Bool.{and_parts, eqb-true, false≢true}
use Rattle.std.proofs.lemmas.Slice.Eq.{bytes_eq-Decides}
use Rattle.definitions.specs.declared.frames.TurnFrame.{TurnFrame}
use Rattle.definitions.specs.declared.frames.TurnFrame.TheVariants as F
use Rattle.definitions.specs.declared.world.Move.{Move}
use Rattle.definitions.specs.declared.openings.Nonce.{Nonce}
use Rattle.definitions.specs.declared.logs.Entry.{Entry}
use Rattle.definitions.specs.declared.logs.Entry.TheVariants.{Chose, Made, Got}
use Rattle.definitions.specs.Logs.{made}
use Rattle.definitions.specs.Honest.{IsHonest}
use Rattle.definition_laws.specs.Members.{Has}
use Rattle.definition_laws.proofs.Members.{Has_each, Has_front, flat_map_Has, map_Has, slice_get_Has}
use Rattle.definition_laws.proofs.Behind.{reveal_behind_received}
use Rattle.definition_laws.proofs.ForPeers.{honest_empty}
use Rattle.socket_station.specs.declared.answers.Addr.{Addr}
use Rattle.datagram_post.specs.Items.{Item, Gave}
use Rattle.datagram_post.specs.Moved.{Mail}
use Rattle.peer_rules.specs.Addresses.{addr_eq}
use Rattle.post_rules.specs.declared.partners.Partner.{Partner}
use Rattle.post_rules.specs.declared.limits.TheConstants.{MOST_FRAMES}
use Rattle.post_rules.specs.Views.{Setting, View, start, anew}
use Rattle.post_rules.specs.After.{view_after}
use Rattle.post_rules.specs.Sending.{asked, next_frames, parts, mail_to, mails_to, batch}
use Rattle.post_rules.specs.Licence.{may_send}
use Rattle.post_rules.specs.Rules.{is_mail, is_allowed}
use Rattle.post_rules.specs.Histories.{are_allowed, are_stretches}
use Rattle.post_rules.specs.Laws.{begin_view, joined, view_at, IsRun, IsBrought, IsFair, IsGiven, RunsAreHonest, GivenStandsBehind}
use Rattle.post_rules.proofs.Logs.{adds}
use Rattle.post_rules.proofs.Received.{Known, known_brought_in}

-- ---- the log of a run is honest

-- an honest log of the setting
abbrev Fair : Setting → View → Type 0
Fair s v = (v.setting ≡ s) × IsHonest s.game s.me v.kept

fair_all : (s : Setting) (v : View) (items : List Item) → are_allowed v items ≡ true → Fair s v → Fair s (view_after v items)
fair_all s v items h r =
    let x = adds v items h in (
      x.setting ∙ r.0,
      subst (λ (z : Setting). IsHonest z.game z.me (view_after v items).kept) r.0
          (x.honest (subst (λ (z : Setting). IsHonest z.game z.me v.kept) (sym r.0) r.1)),
    )

fair_stretches : (s : Setting) (v : View) (front : List (List Item)) → are_stretches v front ≡ true → Fair s v → Fair s (begin_view v front)
fair_stretches s v [] h r = r
fair_stretches s v (items ∷ more) h r =
    let p = and_parts _ _ h in
    fair_stretches s (anew (view_after v items)) more p.1 (fair_all s v items p.0 r)

fair_start : (s : Setting) → Fair s (start s)
fair_start s = (refl, honest_empty s.game s.me)

fair_run : (s : Setting) (front : List (List Item)) (items : List Item) → IsRun s front items → Fair s (view_at s front items)
fair_run s front items r = fair_all s (begin_view (start s) front) items r.1 (fair_stretches s (start s) front r.0 (fair_start s))

pub runs_are_honest : RunsAreHonest
runs_are_honest s front items r = (fair_run s front items r).1

-- ---- what stands in lists

has_taken : (n : ℕ) (fs : List TurnFrame) (f : TurnFrame) → Has (take n fs) f → Has fs f
has_taken zero fs f m = absurd m
has_taken (suc n) [] f m = absurd m
has_taken (suc n) (x ∷ fs) f (inl e) = inl e
has_taken (suc n) (x ∷ fs) f (inr m) = inr (has_taken n fs f m)

has_dropped : (n : ℕ) (fs : List TurnFrame) (f : TurnFrame) → Has (drop n fs) f → Has fs f
has_dropped zero fs f m = m
has_dropped (suc n) [] f m = absurd m
has_dropped (suc n) (x ∷ fs) f m = inr (has_dropped n fs f m)

some_same : (f g : TurnFrame) → Some f ≡ Some g → f ≡ g
some_same f g e = cc

has_some : (fs : List TurnFrame) (f : TurnFrame) → Has (map Some fs) (Some f) → Has fs f
has_some [] f m = absurd m
has_some (x ∷ fs) f (inl e) = inl (some_same x f e)
has_some (x ∷ fs) f (inr m) = inr (has_some fs f m)

has_part : (fs : List TurnFrame) (f : TurnFrame) → Has (parts fs) (Some f) → Has fs f
has_part [] f (inl e) = absurd (cc)
has_part [] f (inr m) = absurd m
has_part (x ∷ fs) f (inl e) = inl (some_same x f e)
has_part (x ∷ fs) f (inr m) = inr (has_some fs f m)

has_own : (fs : List TurnFrame) (p : Partner) (f : TurnFrame) → Has (parts (next_frames fs p)) (Some f) → Has fs f
has_own fs p f m = has_dropped (asked (length fs) p) fs f (has_taken MOST_FRAMES (drop (asked (length fs) p) fs) f (has_part (next_frames fs p) f m))

-- the frame stands among the entries
abbrev Stands : List Entry → TurnFrame → Type 0
Stands h f = (before : List Entry) × (rest : List Entry) × (h ≡ before ++ Made f ∷ rest)

stands_behind : (e : Entry) (h : List Entry) (f : TurnFrame) → Stands h f → Stands (e ∷ h) f
stands_behind e h f s = (e ∷ s.0, s.1, ap (λ (x : List Entry). e ∷ x) s.2)

stands : (h : List Entry) (f : TurnFrame) → Has (made h) f → Stands h f
unfolding made
stands [] f m = absurd m
stands (Chose t n k ∷ h) f m = stands_behind (Chose t n k) h f (stands h f m)
stands (Made g ∷ h) f (inl e) = ([], h, ap (λ (x : TurnFrame). Made x ∷ h) e)
stands (Made g ∷ h) f (inr m) = stands_behind (Made g) h f (stands h f m)
stands (Got q g ∷ h) f m = stands_behind (Got q g) h f (stands h f m)

-- ---- what is given

abbrev addr : (ip : List ℕ) (port : ℕ) → Addr
addr ip port = record { ip = ip; port = port }

pub same_addr : (a b : Addr) → addr_eq a b ≡ true → a ≡ b
same_addr a b h =
    let p = and_parts _ _ h in
    let ip : a.ip ≡ b.ip = (bytes_eq-Decides a.ip b.ip).0 p.0 in
    let port : a.port ≡ b.port = eqb-true a.port b.port p.1 in
    ap (λ (x : List ℕ). addr x a.port) ip ∙ ap (λ (x : ℕ). addr b.ip x) port

-- the datagram is the mail that is next
record IsMail (v : View) (addr : Addr) (bytes : List ℕ) : Type 0 where
  mail : Mail
  has : Has (batch v) mail
  to : addr ≡ mail.to
  text : bytes ≡ mail.bytes

mail_of : (v : View) (addr : Addr) (bytes : List ℕ) (o : Option Mail) → slice_get (batch v) v.settling.sent ≡ o → is_mail o addr bytes ≡ true → IsMail v addr bytes
mail_of v addr bytes None e h = absurd (false≢true h)
mail_of v addr bytes (Some m) e h =
    let p = and_parts _ _ h in
    record {
      mail = m;
      has = slice_get_Has (batch v) v.settling.sent m e;
      to = same_addr addr m.to p.0;
      text = (bytes_eq-Decides bytes m.bytes).0 p.1;
    }

synced_of : (v : View) → may_send v ≡ true → v.synced ≡ length v.kept
synced_of v h = eqb-true v.synced (length v.kept) (and_parts _ _ (and_parts _ _ h).1).1

-- a reveal of an honest log is fair where what was received is known
fair_in : (s : Setting) (v : View) (items : List Item) (t : ℕ) (m : Move) (n : Nonce) → 1 ≤ s.game.ahead → IsHonest s.game s.me v.kept → Known (IsBrought s items) s v →
    Stands v.kept (F.Reveal s.me t m n) → IsFair s v.kept items t m n
fair_in s v items t m n ahead honest k x =
    let all : IsHonest s.game s.me (x.0 ++ Made (F.Reveal s.me t m n) ∷ x.1) = subst (IsHonest s.game s.me) x.2 honest in
    record {
      before = x.0;
      rest = x.1;
      stands = x.2;
      received = λ q lt other met.
          let y = reveal_behind_received s.game s.me t q x.0 x.1 m n ahead all lt other met in (
            y.0,
            y.1,
            y.2,
            k.logs q (F.Commit q t y.0)
                (subst (λ (z : List Entry). Has z (Got q (F.Commit q t y.0))) (sym x.2)
                (Has_front x.0 (Made (F.Reveal s.me t m n) ∷ x.1) (Got q (F.Commit q t y.0)) y.2)),
          );
    }

module _ (s : Setting) (v : View) (items : List Item) (ahead : 1 ≤ s.game.ahead) (same : v.setting ≡ s) (honest : IsHonest s.game s.me v.kept)
    (k : Known (IsBrought s items) s v) where
  own_of : (p : Partner) (o : Option TurnFrame) → Has (parts (next_frames (made v.kept) p)) o → (f : TurnFrame) → o ≡ Some f → Has (made v.kept) f
  own_of p o m f e = has_own (made v.kept) p f (subst (Has (parts (next_frames (made v.kept) p))) e m)

  given : (addr : Addr) (bytes : List ℕ) → is_allowed v (Gave addr bytes) ≡ true → IsGiven s v items addr bytes
  given addr bytes h =
      let both = and_parts _ _ h in
      let x = mail_of v addr bytes (slice_get (batch v) v.settling.sent) refl both.1 in
      let a = flat_map_Has (mails_to v.setting.game v.setting.me v.kept) v.partners x.mail x.has in
      let b = map_Has (mail_to v.setting.game v.setting.me v.kept a.0) (parts (next_frames (made v.kept) a.0)) x.mail a.2 in
      record {
        partner = a.0;
        among = Has_each (λ p. Has s.roster.links p.link) v.partners a.0 k.partners a.1;
        to = x.to ∙ ap (λ (m : Mail). m.to) (sym b.2);
        frame = b.0;
        spelled = x.text ∙ ap (λ (m : Mail). m.bytes) (sym b.2) ∙ ap (λ (z : Setting). (mail_to z.game z.me v.kept a.0 b.0).bytes) same;
        synced = synced_of v both.0;
        own = own_of a.0 b.0 b.1;
        fair = λ t m n e. fair_in s v items t m n ahead honest k (stands v.kept (F.Reveal s.me t m n) (own_of a.0 b.0 b.1 (F.Reveal s.me t m n) e));
      }

pub given_stands_behind : GivenStandsBehind
given_stands_behind s front items addr bytes ahead r h =
    let v = view_at s front items in
    let fair = fair_run s front items r in
    given s v (joined front ++ items) ahead fair.0 fair.1 (known_brought_in s front items r) addr bytes h
