-- Noted: what a book of seals keeps after one more.
use Rattle.std.proofs.Common.{◌≡◌, ℕ, true, false, Bool, List, [], ◌∷◌, ◌++◌, Option, None, Some, length, refl, sym, ap, ◌∙◌, subst}
use Rattle.std.specs.Prelude.{cond, is_some, if◌then◌else◌}
use Rattle.std.specs.BTreeMap.{is_at}
use Rattle.std.specs.Option.{option_or}
use Rattle.definitions.specs.declared.frames.TurnFrame.{TurnFrame}
use Rattle.definitions.specs.Logs.{frame_eq}
use Rattle.definition_laws.proofs.Alike.{frame_eq_same, frame_eq_true}
use Rattle.sealed_files.specs.SealedFrames.{SealedFrame}
use Rattle.accuser.specs.declared.frame_key.FrameKey.{FrameKey}
use Rattle.accuser.specs.Keys.{key_cmp, key_of}
use Rattle.accuser.specs.SealBooks.{AreLong, Book, KeepsSeals, seal_among, seal_in, seal_under}
use Rattle.accuser.proofs.Keyed.{one_frame}

-- the entries have the seal under the key, and what they had under all others
abbrev pub HaveOneMore : (old new : List (FrameKey × List ℕ)) → FrameKey → List ℕ → Type 0
HaveOneMore old new k s = (l : FrameKey) → seal_under new l ≡ cond (is_at (key_cmp k) l) (Some s) (seal_under old l)

pub none_some : {A : Type 0} (x : A) → None ≡ Some x → ⊥
none_some x e = cc

pub none_long : (n : ℕ) → AreLong n []
none_long n k s e = absurd (none_some s e)

pub long_more : (n : ℕ) (old new : List (FrameKey × List ℕ)) (k : FrameKey) (s : List ℕ) → length s ≡ n → HaveOneMore old new k s → AreLong n old → AreLong n new
long_more n old new k s long more was l t e = go (is_at (key_cmp k) l) refl
  where
    go : (b : Bool) → is_at (key_cmp k) l ≡ b → length t ≡ n
    go true at = let same : Some s ≡ Some t = sym (more l ∙ ap (λ (b : Bool). cond b (Some s) (seal_under old l)) at) ∙ e in ap length (let one : t ≡ s = cc in one) ∙ long
    go false at = was l t (sym (more l ∙ ap (λ (b : Bool). cond b (Some s) (seal_under old l)) at) ∙ e)

-- the frame with its seal
abbrev pub with_seal : TurnFrame → List ℕ → SealedFrame
with_seal f s = record { frame = f; seal = s }

or_none : {A : Type 0} (o : Option A) → o ≡ option_or o None
or_none None = refl
or_none (Some x) = refl

-- a seal of the frame is kept already
pub noted_before : (b : Book) (f : TurnFrame) (s : List ℕ) → is_some (seal_in b f) ≡ true → KeepsSeals b b (with_seal f s ∷ [])
noted_before b f s there g = go (seal_in b g) refl (frame_eq f g) refl
  where
    go : (o : Option (List ℕ)) → seal_in b g ≡ o → (c : Bool) → frame_eq f g ≡ c → o ≡ option_or o (if c then Some s else None)
    go (Some t) e c at = refl
    go None e false at = refl
    go None e true at = absurd (let no : false ≡ true = sym (ap is_some (ap (seal_in b) (frame_eq_true f g at) ∙ e)) ∙ there in cc)

-- none was
pub noted_first : (b b' : Book) (f : TurnFrame) (s : List ℕ) → is_some (seal_in b f) ≡ false → HaveOneMore b.entries b'.entries (key_of f) s → seal_in b' f ≡ Some s → KeepsSeals b b' (with_seal f s ∷ [])
noted_first b b' f s absent more there g = go (is_at (key_cmp (key_of f)) (key_of g)) refl (frame_eq f g) refl (seal_in b g) refl
  where
    now : (c : Bool) → is_at (key_cmp (key_of f)) (key_of g) ≡ c → seal_in b' g ≡ cond c (Some s) (seal_in b g)
    now c at = more (key_of g) ∙ ap (λ (d : Bool). cond d (Some s) (seal_in b g)) at

    go : (c : Bool) → is_at (key_cmp (key_of f)) (key_of g) ≡ c → (d : Bool) → frame_eq f g ≡ d → (o : Option (List ℕ)) → seal_in b g ≡ o →
        seal_in b' g ≡ option_or o (if d then Some s else None)
    go true at d e None was = now true at ∙ ap (λ (x : Bool). if x then Some s else None) (sym (sym e ∙ ap (frame_eq f) (sym (one_frame f g at)) ∙ frame_eq_same f))
    go true at d e (Some t) was = absurd (let no : false ≡ true = sym absent ∙ ap (λ (h : TurnFrame). is_some (seal_in b h)) (one_frame f g at) ∙ ap is_some was in cc)
    go false at false e o was = now false at ∙ was ∙ or_none o
    go false at true e o was =
        let same = frame_eq_true f g e in
        absurd (let no : false ≡ true = sym absent ∙ ap (λ (h : TurnFrame). is_some (seal_in b h)) same ∙ ap is_some (sym (now false at)) ∙ ap (λ (h : TurnFrame). is_some (seal_in b' h)) (sym same) ∙ ap is_some there in cc)

-- the same of the key's own name, and of a copy of the seal
pub noted_under : (b b' : Book) (f : TurnFrame) (s : List ℕ) (k : FrameKey) (copy : List ℕ) → k ≡ key_of f → copy ≡ s → is_some (seal_under b.entries k) ≡ false →
    HaveOneMore b.entries b'.entries k copy → seal_under b'.entries k ≡ Some copy → KeepsSeals b b' (with_seal f s ∷ [])
noted_under b b' f s k copy key same absent more there =
    noted_first b b' f s (ap (λ (l : FrameKey). is_some (seal_under b.entries l)) (sym key) ∙ absent)
    (subst (λ (l : FrameKey). HaveOneMore b.entries b'.entries l s) key (subst (HaveOneMore b.entries b'.entries k) same more))
    (ap (seal_under b'.entries) (sym key) ∙ there ∙ ap (λ (t : List ℕ). Some t) same)

-- ---- the seals of sealed frames, one behind the other

pub among_append : (ss ts : List SealedFrame) (f : TurnFrame) → seal_among (ss ++ ts) f ≡ option_or (seal_among ss f) (seal_among ts f)
among_append [] ts f = refl
among_append (s ∷ ss) ts f = go (frame_eq s.frame f) (among_append ss ts f)
  where
    go : (c : Bool) → seal_among (ss ++ ts) f ≡ option_or (seal_among ss f) (seal_among ts f) →
        (if c then Some s.seal else seal_among (ss ++ ts) f) ≡ option_or (if c then Some s.seal else seal_among ss f) (seal_among ts f)
    go true ih = refl
    go false ih = ih

or_assoc : {A : Type 0} (o p q : Option A) → option_or (option_or o p) q ≡ option_or o (option_or p q)
or_assoc None p q = refl
or_assoc (Some x) p q = refl

pub none_kept : (b : Book) → KeepsSeals b b []
none_kept b f = or_none (seal_in b f)

pub both_kept : (a b c : Book) (ss ts : List SealedFrame) → KeepsSeals a b ss → KeepsSeals b c ts → KeepsSeals a c (ss ++ ts)
both_kept a b c ss ts one two f =
    two f ∙ ap (λ (o : Option (List ℕ)). option_or o (seal_among ts f)) (one f) ∙ or_assoc (seal_in a f) (seal_among ss f) (seal_among ts f)
    ∙ ap (option_or (seal_in a f)) (sym (among_append ss ts f))
