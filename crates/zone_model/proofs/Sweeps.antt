-- A deed to every zone whose state takes it is admitted by each of these zones.
use Rattle.std.proofs.Common.{◌≡◌, ℕ, Bool, true, false, Some, None, refl}
use Rattle.std.specs.Prelude.{◌&&◌, ◌||◌, ◌==◌, is_ok}
use Rattle.std.proofs.lemmas.Bool.{or_parts}
use Rattle.zns_types.specs.declared.fields.GeometryFields.{GeometryFields}
use Rattle.zns_types.specs.Rows.{first_holding}
use Rattle.sqe_codec.specs.declared.cmd.Cmd.{Cmd}
use Rattle.sqe_codec.specs.declared.cmd.Cmd.TheVariants as cmd
use Rattle.zone_state.specs.declared.action.Action.TheVariants as action
use Rattle.zone_state.specs.Transitions.{go}
use Rattle.drive_rules.specs.declared.deed.Deed.{Deed}
use Rattle.drive_rules.specs.declared.deed.Deed.TheVariants as deed
use Rattle.drive_rules.specs.ZoneRows.{Zone}
use Rattle.drive_rules.specs.Deeds.{Admits, takes_all}
use Rattle.drive_rules.specs.Aims.{open_code, commit_code, sweep_of}
use Rattle.drive_rules.specs.Tables.{front_rows}
use Rattle.drive_rules.proofs.Leads.{takes_all_leads}
use Rattle.zone_history.specs.Admitted.{is_write}
use Rattle.zone_model.proofs.Fronts.{send_front-passes}
use Rattle.zone_model.proofs.Sends.{sent-holds, sent-no_write}

open-admits : (g : GeometryFields) (zone : Zone) (window : Bool) → window ≡ false → is_ok (go action.Open zone.state) ≡ true → Admits g zone (deed.Open window)
open-admits g zone true none leads = absurd (cc none)
open-admits g zone false none leads = rw leads refl

-- an Open of all zones asks for no random write area
no_window : (act : ℕ) (option : Bool) → ((act == commit_code) || ((act == open_code) && option)) ≡ false → (act == open_code) ≡ true → option ≡ false
no_window act option none is = let parts = or_parts (act == commit_code) ((act == open_code) && option) none in rw is at parts.1

pub sweep-admits : (g : GeometryFields) (k : Cmd) (d : Deed) (zone : Zone) → first_holding (front_rows g k) ≡ None → sweep_of k ≡ Some d → takes_all d zone.state ≡ true → Admits g zone d
sweep-admits g (cmd.Send nsid slba act true option) d zone front e taken =
    let passes = send_front-passes g nsid slba act true option front in
    sent-holds (λ x. takes_all x zone.state ≡ true → Admits g zone x) act option 0 d
    (record {
      close = λ took. rw (takes_all_leads deed.Close zone.state took) refl;
      finish = λ took. rw (takes_all_leads deed.Finish zone.state took) refl;
      opens = λ is took. open-admits g zone option (no_window act option passes.not_for_all is) (takes_all_leads (deed.Open option) zone.state took);
      reset = λ took. rw (takes_all_leads deed.Reset zone.state took) refl;
      offline = λ took. rw (takes_all_leads deed.Offline zone.state took) refl;
      commit = λ took. absurd (cc took);
    })
    e taken
sweep-admits g (cmd.Send nsid slba act false option) d zone front e taken = absurd (cc e)
sweep-admits g _ d zone front e taken = absurd (cc e)

pub sweep-no_write : (k : Cmd) (d : Deed) → sweep_of k ≡ Some d → is_write d ≡ false
sweep-no_write (cmd.Send nsid slba act true option) d e = sent-no_write act option 0 d e
sweep-no_write (cmd.Send nsid slba act false option) d e = absurd (cc e)
sweep-no_write _ d e = absurd (cc e)
