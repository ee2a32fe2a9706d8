-- The laws of an application's field.
use Rattle.std.specs.Prelude.{ℕ, ◌^◌, ◌<◌, ◌≤◌, Bool, cond, nat_lt, ◌++◌, length, Ok}
use Rattle.std.specs.Int.{w16}
use Rattle.std.proofs.Common.{ap, subst, ◌∙◌, arith}
use Rattle.dac_part_bytes.proofs.Common.{◌+◌, AppId, Rest, fault, ◌>>=◌, number_at, TakesAs, Again, app_at, app_bytes}
use Rattle.std.proofs.lemmas.Bool.{ltb-true, lt-ltb}
use Rattle.dac_bytes.specs.declared.fault.ReadFaultKind.TheVariants.{BadName}
use Rattle.dac_bytes.specs.laws.Fields.{u16_takes, u16_again}
use Rattle.dac_bytes.specs.Takes.{Takes}
use Rattle.dac_bytes.specs.laws.Takes.{bind_ok, wanted_ok}

abbrev numbered : ℕ → AppId
numbered n = record { 0 = n }

module _ (apps : ℕ) where
  -- An application that is read exists.
  pub app_takes : TakesAs (app_at apps) app_bytes (λ app. app.0 < apps)
  unfolding app_at
  app_takes r x fits e =
      let b = bind_ok (number_at w16 r) (λ n. cond (nat_lt n.0 apps) (Ok (numbered n.0, n.1)) (fault BadName r)) x e in
      let g = wanted_ok (nat_lt b.0.0 apps) BadName r (numbered b.0.0, b.0.1) x b.2 in
      let t = u16_takes r b.0 fits b.1 in
      subst (λ (x : AppId × Rest). Takes r (app_bytes x.0) x.1 × (x.0.0 < apps)) g.1 (t.0, ltb-true b.0.0 apps g.0)

  pub app_again : apps ≤ 2 ^ 16 → (app : AppId) → app.0 < apps → Again (app_at apps) (app_bytes app) app
  unfolding app_at
  app_again fit app lt at rest =
      let r : Rest = record { at = at; bytes = app_bytes app ++ rest } in
      let end : Rest = record { at = at + length (app_bytes app); bytes = rest } in
      ap (λ f. f >>= λ n. cond (nat_lt n.0 apps) (Ok (numbered n.0, n.1)) (fault BadName r)) (u16_again app.0 (omega arith) at rest)
      ∙ ap (λ (b : Bool). cond b (Ok (app, end)) (fault BadName r)) (lt-ltb app.0 apps lt)
