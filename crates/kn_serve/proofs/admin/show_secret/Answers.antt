use Rattle.std.proofs.Common.{◌≡◌, true, false, refl, inl, inr}
use Rattle.std.specs.Str.{bytes_eq}
use Rattle.kn_wire.specs.Hex.{bytes_of_hex}
use Rattle.kn_daemon.specs.Daemon.{is_secret}
use Rattle.kn_serve.specs.Handling.{state_of}
use Rattle.kn_serve.proofs.AdmittingLaws.{admin_refused, admin_done, secret_right, secret_wrong}
use Rattle.kn_serve.proofs.admin.show_secret.Goals as goal
use Rattle.kn_serve.proofs.admin.show_secret.Goals.{then-is_empty-via-then-is_empty}
use Rattle.kn_serve.proofs.admin.show_secret.Goals.{then-is_empty-via-else-is_empty+then-not-is_hex_of}

pub returns-then-is_empty : goal.returns-then-is_empty
returns-then-is_empty g c =
    let secret = c.args.secret.now in
    let bytes = bytes_of_hex c.args.digits.now in
    let wrong : is_secret secret bytes ≡ false = elim c.then-is_empty.branch [
      | then-is_empty-via-then-is_empty w ↦
          secret_wrong secret bytes c.is_empty.result (bytes_eq bytes secret) c.is_empty.ensures refl
          (inl w.if-is_empty.true)
      | then-is_empty-via-else-is_empty+then-not-is_hex_of w ↦
          secret_wrong secret bytes c.is_empty.result w.is_hex_of.result c.is_empty.ensures w.is_hex_of.ensures
          (inr w.if-not-is_hex_of.true)
    ] in
    record {
      forgotten = c.forget.ensures;
      exact = λ g' same. admin_refused g' (state_of c.args.connection.now) secret c.args.digits.now _ _ _ same wrong
          c.print.ensures;
    }

pub returns : goal.returns
returns g c =
    let secret = c.args.secret.now in
    let bytes = bytes_of_hex c.args.digits.now in
    let right : is_secret secret bytes ≡ true =
    secret_right secret bytes c.is_empty.result c.is_hex_of.result c.is_empty.ensures c.is_hex_of.ensures
    c.if-is_empty.false c.if-not-is_hex_of.false in
    record {
      forgotten = c.forget.ensures;
      exact = λ g' same. admin_done g' (state_of c.args.connection.now) secret c.args.digits.now _ _ _ same right
          c.print-2.ensures;
    }
