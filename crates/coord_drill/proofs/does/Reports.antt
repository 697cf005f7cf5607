-- What changes nothing.
use Rattle.std.proofs.Common.{◌≡◌, ℕ, true, false, List, [], ◌++◌, refl, sym, append-nil, arith}
use Rattle.std.proofs.lemmas.Bool.{false≢true}
use Rattle.coord_disk.specs.Model.DiskModel.{DiskModel}
use Rattle.coord_drill.specs.Answered.{asked_lines}
use Rattle.coord_drill.specs.Drill.{after_asked, changes_nothing, line_events}
use Rattle.coord_drill.specs.declared.asked.Asked.TheVariants as ask
use Rattle.coord_drill.specs.Facade.{Asked, Carries, CarriesIf, Drill, Reports, drill_of, state_of}
use Rattle.coord_drill.proofs.does.Moments.{Survive, by_asked, is_version, leads_none}

module _ {D : Type 0} (disk : DiskModel D) (crashes : D → D → Type 0) where
  -- a line without an event leaves the drill unchanged
  still : (d new : Drill D) (a : Asked) (reported : List ℕ) → Survive disk crashes d.driver → new.driver ≡ d.driver → is_version a ≡ false → line_events d.holds a [] ≡ [] → reported ≡ asked_lines (state_of d) a [] → state_of new ≡ after_asked (state_of d) a [] → Carries disk crashes d a reported new
  still d new a reported survives driver other none printed same =
      record {
        given = [];
        answered = record { answered = rw none tt; with_memory = tt; printed = printed; goes_on = same };
        moments = by_asked disk crashes d new [] a other (rw none (rw driver (leads_none disk crashes d.driver survives)));
      }

  pub reports : (d : Drill D) (a : Asked) (old text : List ℕ) → changes_nothing a ≡ true → Survive disk crashes d.driver → text ≡ old ++ asked_lines (drill_of d.driver.ledger false false) a [] → Reports old text (λ reported. CarriesIf disk crashes d a reported d)
  unfolding asked_lines after_asked
  reports d (ask.Refuse refusal) old text nothing survives is = (_, (is, λ promised. still d d (ask.Refuse refusal) _ survives refl refl refl refl refl))
  reports d ask.Nothing old text nothing survives is = (_, (is, λ promised. still d d ask.Nothing _ survives refl refl refl refl refl))
  reports d ask.Resend old text nothing survives is = (_, (is, λ promised. still d d ask.Resend _ survives refl refl refl refl refl))
  reports d ask.Check old text nothing survives is = (_, (is, λ promised. still d d ask.Check _ survives refl refl refl refl refl))
  reports d ask.Show old text nothing survives is = (_, (is, λ promised. still d d ask.Show _ survives refl refl refl refl refl))
  reports d a old text nothing survives is = absurd (false≢true nothing)

  -- none of these is `version 2`
  pub no_version : (a : Asked) → changes_nothing a ≡ true → is_version a ≡ false
  no_version a nothing = grind arith

  -- from now on it holds
  pub carries_hold : (d new : Drill D) → Survive disk crashes d.driver → new.driver ≡ d.driver → new.holds ≡ true → new.has_begun ≡ d.has_begun → CarriesIf disk crashes d ask.Hold [] new
  unfolding asked_lines after_asked
  carries_hold d new survives driver holds begun promised = still d new ask.Hold [] survives driver refl refl refl (λ i. record { log = (driver i).ledger.log; holds = holds i; has_begun = begun i })

-- nothing was printed
pub reports_nothing : (P : List ℕ → Type 0) (text : List ℕ) → P [] → Reports text text P
reports_nothing P text p = ([], (sym (append-nil text), p))
