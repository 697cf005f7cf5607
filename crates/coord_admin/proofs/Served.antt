-- Connections follow one another.
use Rattle.std.proofs.Common.{◌≡◌, ℕ, List, [], ◌∷◌, ◌++◌, true, false, refl, sym, ap, append-nil}
use Rattle.coord_admin.specs.declared.request.Request.{Request}
use Rattle.coord_admin.specs.declared.answer.Answer.{Answer}
use Rattle.coord_admin.specs.Connections.{Connection, Talk, IsServed, AllServed, ServedOpen, ServedToClose, has_closed, talks}

pub talks_on : (cs : List Connection) (c : Connection) → talks (cs ++ c ∷ []) ≡ talks cs ++ c.talk ∷ []
talks_on [] c = refl
talks_on (first ∷ cs) c = ap (λ l. first.talk ∷ l) (talks_on cs c)

module _ {D : Type 0} (answers : D → Request → Answer → D → Type 0) (keeps : D → ℕ → Type 0) (most : ℕ) where
  -- one more connection, which didn't close the desk
  pub served_on : (cs : List Connection) (c : Connection) (d f e : D) → AllServed answers keeps most d cs f → IsServed answers keeps most f c e → has_closed c.ended ≡ false → AllServed answers keeps most d (cs ++ c ∷ []) e
  served_on [] c d f e all s unclosed = (e, rw (sym all) s, unclosed, refl)
  served_on (first ∷ cs) c d f e all s unclosed = (all.0, all.1, all.2, served_on cs c all.0 f e all.3 s unclosed)

  module _ {V : Type 0} (talked : V → List Talk → V → Type 0) (turn : (a b c : V) (some more : List Talk) → talked a some b → talked b more c → talked a (some ++ more) c) where
    -- no one more has ended
    pub talked_still : (v w x : V) (ts : List Talk) → talked v ts w → talked w [] x → talked v ts x
    talked_still v w x ts first second = rw (sym (append-nil ts)) (turn v w x ts [] first second)

    -- one more has ended
    pub talked_on : (v w x : V) (cs : List Connection) (c : Connection) → talked v (talks cs) w → talked w (c.talk ∷ []) x → talked v (talks (cs ++ c ∷ [])) x
    talked_on v w x cs c first second = rw (talks_on cs c) (turn v w x (talks cs) (c.talk ∷ []) first second)

    pub open_still : (v w x : V) (d f : D) → ServedOpen answers keeps most talked v d w f → talked w [] x → ServedOpen answers keeps most talked v d x f
    open_still v w x d f o still = (o.0, talked_still v w x (talks o.0) o.1 still, o.2)

    pub open_on : (v w x : V) (d f e : D) (c : Connection) → ServedOpen answers keeps most talked v d w f → talked w (c.talk ∷ []) x → IsServed answers keeps most f c e → has_closed c.ended ≡ false → ServedOpen answers keeps most talked v d x e
    open_on v w x d f e c o now served unclosed = (o.0 ++ c ∷ [], talked_on v w x o.0 c o.1 now, served_on o.0 c d f e o.2 served unclosed)

    pub closed_on : (v w x : V) (d f e : D) (c : Connection) → ServedOpen answers keeps most talked v d w f → talked w (c.talk ∷ []) x → IsServed answers keeps most f c e → has_closed c.ended ≡ true → ServedToClose answers keeps most talked v d x e
    closed_on v w x d f e c o now served closed = (o.0, c, f, talked_on v w x o.0 c o.1 now, o.2, served, closed)
