mod Readings
mod Shipping
