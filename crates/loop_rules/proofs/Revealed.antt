-- Revealed: a reveal that may be given stands behind what its turn needed.
use Rattle.std.proofs.Common.{◌≡◌, ℕ, zero, suc, sym, ap, subst, List, [], ◌∷◌, ◌++◌}
use Rattle.std.specs.Prelude.{Some, take, slice_get}
use Rattle.definitions.specs.declared.frames.TurnFrame.{TurnFrame}
use Rattle.definitions.specs.declared.frames.TurnFrame.TheVariants as F
use Rattle.definitions.specs.declared.logs.Entry.{Entry}
use Rattle.definitions.specs.declared.logs.Entry.TheVariants.{Chose, Made, Got}
use Rattle.definitions.specs.Logs.{made}
use Rattle.definition_laws.specs.Members.{Has}
use Rattle.definition_laws.proofs.Members.{Has_front}
use Rattle.loop_rules.specs.After.{view_of}
use Rattle.loop_rules.specs.Laws.{RevealsGivenAreFair}
use Rattle.loop_rules.proofs.Fair.{reveals_kept_stand_behind}
use Rattle.loop_rules.proofs.Received.{receipts_stand_behind}

-- the frame stands among the entries
abbrev pub Stands : List Entry → TurnFrame → Type 0
Stands h f = (before : List Entry) × (rest : List Entry) × (h ≡ before ++ Made f ∷ rest)

stands_behind : (e : Entry) (h : List Entry) (f : TurnFrame) → Stands h f → Stands (e ∷ h) f
stands_behind e h f s = (e ∷ s.0, s.1, ap (λ (x : List Entry). e ∷ x) s.2)

stands : (n : ℕ) (h : List Entry) (place : ℕ) (f : TurnFrame) → slice_get (made (take n h)) place ≡ Some f → Stands h f
unfolding made
stands zero h place f e = absurd (cc)
stands (suc n) [] place f e = absurd (cc)
stands (suc n) (Chose t m k ∷ h) place f e = stands_behind (Chose t m k) h f (stands n h place f e)
stands (suc n) (Made g ∷ h) zero f e = ([], h, ap (λ (x : TurnFrame). Made x ∷ h) (let same : g ≡ f = cc in same))
stands (suc n) (Made g ∷ h) (suc place) f e = stands_behind (Made g) h f (stands n h place f e)
stands (suc n) (Got q g ∷ h) place f e = stands_behind (Got q g) h f (stands n h place f e)

has_same : (xs ys : List Entry) (x : Entry) → xs ≡ ys → Has xs x → Has ys x
has_same xs ys x e m = subst (λ (z : List Entry). Has z x) e m

pub reveals_given_are_fair : RevealsGivenAreFair
reveals_given_are_fair s items place t m n ahead over h safe =
    let v = view_of s items in
    let x = stands v.synced v.kept place (F.Reveal s.me t m n) safe in
    record {
      before = x.0;
      rest = x.1;
      stands = x.2;
      received = λ q lt other met.
          let y = reveals_kept_stand_behind s items x.0 x.1 t q m n ahead over h x.2 lt other met in (
            y.0,
            y.1,
            receipts_stand_behind s items q (F.Commit q t y.0) h
                (has_same (x.0 ++ Made (F.Reveal s.me t m n) ∷ x.1) v.kept (Got q (F.Commit q t y.0)) (sym x.2) (Has_front x.0 (Made (F.Reveal s.me t m n) ∷ x.1) (Got q (F.Commit q t y.0)) y.2)),
          );
    }
