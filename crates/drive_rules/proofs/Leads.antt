-- Where the table of transitions lets deeds lead on.
use Rattle.std.proofs.Common.{◌≡◌, true, false, refl}
use Rattle.std.specs.Prelude.{is_ok}
use Rattle.zns_types.specs.declared.state.State.{State}
use Rattle.zns_types.specs.declared.state.State.TheVariants.{Empty, ImplicitlyOpened, ExplicitlyOpened, Closed, ReadOnly, Full, Offline}
use Rattle.zns_types.specs.States.{is_active, is_full, is_read_only, is_offline, is_implicitly_opened}
use Rattle.zone_state.specs.declared.action.Action.TheVariants as action
use Rattle.zone_state.specs.Transitions.{go}
use Rattle.drive_rules.specs.declared.deed.Deed.{Deed}
use Rattle.drive_rules.specs.declared.deed.Deed.TheVariants as deed
use Rattle.drive_rules.specs.Deeds.{action_of, takes_all}

pub write_leads : (s : State) → is_full s ≡ false → is_read_only s ≡ false → is_offline s ≡ false → is_ok (go action.Write s) ≡ true
write_leads Full full read_only offline = absurd cc
write_leads ReadOnly full read_only offline = absurd cc
write_leads Offline full read_only offline = absurd cc
write_leads _ full read_only offline = refl

pub commit_leads : (s : State) → is_active s ≡ true → is_ok (go action.Commit s) ≡ true
commit_leads ImplicitlyOpened e = refl
commit_leads ExplicitlyOpened e = refl
commit_leads Closed e = refl
commit_leads _ e = absurd (cc e)

pub close_leads : (s : State) → is_implicitly_opened s ≡ true → is_ok (go action.Close s) ≡ true
close_leads ImplicitlyOpened e = refl
close_leads Empty e = absurd cc
close_leads _ e = absurd cc

-- a state that takes a deed to all zones leads on
pub takes_all_leads : (d : Deed) (s : State) → takes_all d s ≡ true → is_ok (go (action_of d) s) ≡ true
takes_all_leads deed.Close ImplicitlyOpened e = refl
takes_all_leads deed.Close ExplicitlyOpened e = refl
takes_all_leads deed.Finish ImplicitlyOpened e = refl
takes_all_leads deed.Finish ExplicitlyOpened e = refl
takes_all_leads deed.Finish Closed e = refl
takes_all_leads (deed.Open window) Closed e = refl
takes_all_leads deed.Reset ImplicitlyOpened e = refl
takes_all_leads deed.Reset ExplicitlyOpened e = refl
takes_all_leads deed.Reset Closed e = refl
takes_all_leads deed.Reset Full e = refl
takes_all_leads deed.Offline ReadOnly e = refl
takes_all_leads _ _ e = absurd (cc e)
