-- Trails one after the other, and worlds on their way.
use Rattle.std.proofs.Common.{◌≡◌, ℕ, List, [], ◌∷◌, ◌++◌, sym, ap, subst, ◌∙◌, append_assoc}
use Rattle.coord_types.specs.declared.steps.Step.{Step}
use Rattle.coord_world.proofs.Facade.{EachFresh, fold-append, trail_each_fresh, trail_of}
use Rattle.coord_world.specs.laws.Trails.{IsTrail}
use Rattle.coord_world.specs.Facade.{World, fold, next}
use Rattle.coord_store.specs.Facade.{Recovered}
use Rattle.coord_engine.specs.Facade.{IsOnTheWay}

-- two trails, the second from where the first leads
both_fresh : (a b : List Step) (w : World) → EachFresh w a → EachFresh (fold w a) b → EachFresh w (a ++ b)
both_fresh [] b w each more = more
both_fresh (s ∷ ss) b w each more = (each.0, both_fresh ss b (next w s) each.1 more)

pub joined : (base : World) (a b : List Step) → IsTrail base a → IsTrail (fold base a) b → IsTrail base (a ++ b)
joined base a b first then = trail_of (a ++ b) base first.sound (both_fresh a b base (trail_each_fresh base a first) (trail_each_fresh (fold base a) b then))

-- a way that goes on
pub farther : (base w : World) (bytes : List ℕ) (more : List Step) → IsTrail w more → IsOnTheWay base w bytes → IsOnTheWay base (fold w more) bytes
farther base w bytes more trail way =
    let there : IsTrail (fold base (way.steps ++ way.others)) more = subst (λ v. IsTrail v more) (sym way.leads) trail in
    let whole : (way.steps ++ way.others) ++ more ≡ way.steps ++ (way.others ++ more) = append_assoc way.steps way.others more in
    record {
      steps = way.steps;
      others = way.others ++ more;
      trail = subst (IsTrail base) whole (joined base (way.steps ++ way.others) more way.trail there);
      leads = ap (fold base) (sym whole) ∙ fold-append (way.steps ++ way.others) more base ∙ ap (λ v. fold v more) way.leads;
      recovered = way.recovered;
    }

-- a way after a trail
pub from_before : (base w end : World) (bytes : List ℕ) (path : List Step) → IsTrail base path → fold base path ≡ w → IsOnTheWay w end bytes → IsOnTheWay base end bytes
from_before base w end bytes path to led way =
    let more : IsTrail (fold base path) (way.steps ++ way.others) = subst (λ v. IsTrail v (way.steps ++ way.others)) (sym led) way.trail in
    let whole : (path ++ way.steps) ++ way.others ≡ path ++ (way.steps ++ way.others) = append_assoc path way.steps way.others in
    record {
      steps = path ++ way.steps;
      others = way.others;
      trail = subst (IsTrail base) (sym whole) (joined base path (way.steps ++ way.others) to more);
      leads = ap (fold base) whole ∙ fold-append path (way.steps ++ way.others) base ∙ ap (λ v. fold v (way.steps ++ way.others)) led ∙ way.leads;
      recovered = subst (Recovered bytes) (sym (fold-append path way.steps base ∙ ap (λ v. fold v way.steps) led)) way.recovered;
    }
