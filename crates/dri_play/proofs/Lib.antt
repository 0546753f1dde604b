-- One item after another
mod Taking
